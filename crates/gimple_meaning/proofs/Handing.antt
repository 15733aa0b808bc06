-- Components that are copied and passed, one more at a time.
use Rattle.std.proofs.Common.{◌≡◌, ◌+◌, ◌-◌, ℕ, zero, suc, refl, ap, ap₂, sym, ◌∙◌, List, [], ◌∷◌, ◌++◌, Option, None, append_assoc, length, slice_set, map, take, drop, replicate, arith}
use Rattle.std.specs.Prelude.{◌&&◌}
use Rattle.std.specs.List.{list_all}
use Rattle.std.specs.Option.{is_some}
use Rattle.gimple_ir.specs.declared.types.Operand.{Operand}
use Rattle.gimple_ir.specs.declared.types.Operand.TheVariants.{Component}
use Rattle.gimple_ir.specs.declared.types.Arg.{Arg}
use Rattle.gimple_ir.specs.declared.types.Arg.TheVariants.{One, Whole}
use Rattle.gimple_ir.specs.declared.types.Value.{Value}
use Rattle.gimple_ir.specs.declared.versioned.Pair.{Pair}
use Rattle.gimple_meaning.specs.Acts.{cell, value_at, copied}
use Rattle.gimple_meaning.specs.Source.{components_from, pairs_from, taken, can_pass}
use Rattle.gimple_meaning.specs.Moves.{passes}

-- ---- copies

copied-push : (cells : List (Option Value)) (ps : List Pair) (p : Pair)
    → copied cells (ps ++ p ∷ []) ≡ slice_set (copied cells ps) p.to (value_at (copied cells ps) p.from)
copied-push cells [] p = refl
copied-push cells (q ∷ ps) p = copied-push (slice_set cells q.to (value_at cells q.from)) ps p

pairs_from-more : (to from n : ℕ) → pairs_from to from (suc n) ≡ pairs_from to from n ++ record { to = to + n; from = Component (from + n) } ∷ []
pairs_from-more to from zero = let e : to ≡ to + 0 = omega arith in let d : from ≡ from + 0 = omega arith in
    ap₂ (λ a b. record { to = a; from = Component b } ∷ []) e d
pairs_from-more to from (suc n) =
    let e : to + 1 + n ≡ to + suc n = omega arith in
    let d : from + 1 + n ≡ from + suc n = omega arith in
    ap (λ ps. record { to = to; from = Component from } ∷ ps) (pairs_from-more (to + 1) (from + 1) n ∙ ap₂ (λ a b. pairs_from (to + 1) (from + 1) n ++ record { to = a; from = Component b } ∷ []) e d)

pub copied-more : (cells now : List (Option Value)) (to from n : ℕ) → now ≡ copied cells (pairs_from to from n)
    → slice_set now (to + n) (cell now (from + n)) ≡ copied cells (pairs_from to from (n + 1))
copied-more cells now to from n is =
    let one : suc n ≡ n + 1 = omega arith in
    ap (λ xs. slice_set xs (to + n) (cell xs (from + n))) is ∙ sym (copied-push cells (pairs_from to from n) (record { to = to + n; from = Component (from + n) }))
    ∙ ap (copied cells) (sym (pairs_from-more to from n)) ∙ ap (λ k. copied cells (pairs_from to from k)) one

-- ---- arguments

pub can_pass-list_all : (cells : List (Option Value)) (args : List Arg) → list_all (passes cells) args ≡ can_pass cells args
can_pass-list_all cells [] = refl
can_pass-list_all cells (One o ∷ more) = ap (λ b. is_some (value_at cells o) && b) (can_pass-list_all cells more)
can_pass-list_all cells (Whole v ∷ more) = can_pass-list_all cells more

components_from-more : (first n : ℕ) → components_from first (suc n) ≡ components_from first n ++ Component (first + n) ∷ []
components_from-more first zero = let e : first ≡ first + 0 = omega arith in ap (λ a. Component a ∷ []) e
components_from-more first (suc n) =
    let e : first + 1 + n ≡ first + suc n = omega arith in
    ap (λ os. Component first ∷ os) (components_from-more (first + 1) n ∙ ap (λ a. components_from (first + 1) n ++ Component a ∷ []) e)

map-push : (cells : List (Option Value)) (os : List Operand) (o : Operand) → map (value_at cells) (os ++ o ∷ []) ≡ map (value_at cells) os ++ value_at cells o ∷ []
map-push cells [] o = refl
map-push cells (p ∷ os) o = ap (λ xs. value_at cells p ∷ xs) (map-push cells os o)

pub whole-more : (cells before now : List (Option Value)) (first n : ℕ) → now ≡ before ++ map (value_at cells) (components_from first n)
    → now ++ cell cells (first + n) ∷ [] ≡ before ++ map (value_at cells) (components_from first (n + 1))
whole-more cells before now first n is =
    let one : suc n ≡ n + 1 = omega arith in
    ap (λ xs. xs ++ cell cells (first + n) ∷ []) is ∙ append_assoc before (map (value_at cells) (components_from first n)) (cell cells (first + n) ∷ [])
    ∙ ap (λ xs. before ++ xs) (sym (map-push cells (components_from first n) (Component (first + n))) ∙ ap (map (value_at cells)) (sym (components_from-more first n)))
    ∙ ap (λ k. before ++ map (value_at cells) (components_from first k)) one

-- ---- new frames

record Front (xs : List (Option Value)) (k : ℕ) (y : Option Value) (ys : List (Option Value)) : Type 0 where
  first : cell xs k ≡ y
  rest : drop (suc k) xs ≡ ys

front : (xs : List (Option Value)) (k : ℕ) (y : Option Value) (ys : List (Option Value)) → drop k xs ≡ y ∷ ys → Front xs k y ys
front [] zero y ys h = absurd (cc)
front [] (suc k) y ys h = absurd (cc)
front (x ∷ xs) zero y ys h = record { first = cc; rest = cc }
front (x ∷ xs) (suc k) y ys h = let f = front xs k y ys h in record { first = f.first; rest = f.rest }

none-left : (xs : List (Option Value)) (k : ℕ) → drop k xs ≡ [] → (cell xs k ≡ None) × (drop (suc k) xs ≡ [])
none-left [] zero h = (refl, refl)
none-left [] (suc k) h = (refl, refl)
none-left (x ∷ xs) zero h = absurd (cc)
none-left (x ∷ xs) (suc k) h = none-left xs k h

taken-none : (n k : ℕ) (xs : List (Option Value)) → drop k xs ≡ [] → replicate (n - 0) None ≡ taken k n xs
taken-none zero k xs h = refl
taken-none (suc n) k xs h =
    let l = none-left xs k h in
    let e : suc n - 0 ≡ suc n = omega arith in
    let z : n ≡ n - 0 = omega arith in
    let d : suc k ≡ k + 1 = omega arith in
    ap (λ m. replicate m None) e ∙ ap₂ (λ a xs. a ∷ xs) (sym l.0) (ap (λ m. replicate m None) z ∙ taken-none n (suc k) xs l.1 ∙ ap (λ j. taken j n xs) d)

taken-from : (n k : ℕ) (xs ys : List (Option Value)) → drop k xs ≡ ys → take n ys ++ replicate (n - length ys) None ≡ taken k n xs
taken-from zero k xs [] h = refl
taken-from zero k xs (y ∷ ys) h = let e : 0 - suc (length ys) ≡ 0 = omega arith in ap (λ m. replicate m None) e
taken-from (suc n) k xs [] h = taken-none (suc n) k xs h
taken-from (suc n) k xs (y ∷ ys) h =
    let f = front xs k y ys h in
    let e : suc n - suc (length ys) ≡ n - length ys = omega arith in
    let d : suc k ≡ k + 1 = omega arith in
    ap₂ (λ a xs. a ∷ xs) (sym f.first) (ap (λ m. take n ys ++ replicate m None) e ∙ taken-from n (suc k) xs ys f.rest ∙ ap (λ j. taken j n xs) d)

pub taken-is : (n : ℕ) (xs : List (Option Value)) → take n xs ++ replicate (n - length xs) None ≡ taken 0 n xs
taken-is n xs = taken-from n 0 xs xs refl
