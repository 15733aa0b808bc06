-- Names in order, and the map of their numbers.
use Rattle.std.proofs.Common.{◌≡◌, ◌+◌, ◌<◌, ℕ, List, [], ◌∷◌, ◌++◌, zero, suc, get_or, length, map, take, min, Bool, true, false, cond, Option, Some, None, refl, sym, ap, ◌∙◌, arith}
use Rattle.std.specs.List.{position}
use Rattle.std.specs.Option.{option_map, option_map_or}
use Rattle.std.specs.Str.{bytes_eq}
use denote.Ref.{Bor}
use Rattle.std.proofs.lemmas.List.{length-take, length-map}
use Rattle.std.proofs.Math.Seq.{take-length}
use Rattle.std.proofs.lemmas.Iterator.Adapters.{position_from-zero}
use Rattle.std.specs.List.{position_from}
use Rattle.std.proofs.lemmas.Slice.Eq.{bytes_eq-Decides}
use Rattle.gimple_syntax.specs.Numbers.{nothing, number_of}
use Rattle.gimple_syntax.specs.Table.{Numbers, number_in, first_number, or_else, Finds}

-- ---- a name that is looked up

found-number : (place : Option ℕ) (n : ℕ) → option_map (λ p. min p nothing) place ≡ Some n
    → n ≡ min (option_map_or (λ p. p) place nothing) nothing
found-number None n e = cc
found-number (Some p) n e = cc

no-number : (place : Option ℕ) → option_map (λ p. min p nothing) place ≡ None
    → nothing ≡ min (option_map_or (λ p. p) place nothing) nothing
no-number None e = refl
no-number (Some p) e = cc

pub number-found : (names : List (List ℕ)) (numbers : Numbers) (q : List ℕ) (n : ℕ) → Finds names numbers
    → number_in numbers q ≡ Some n → n ≡ number_of names q
unfolding Finds number_of
number-found names numbers q n finds e = found-number (position (bytes_eq q) names) n (sym (finds q) ∙ e)

pub number-absent : (names : List (List ℕ)) (numbers : Numbers) (q : List ℕ) → Finds names numbers
    → number_in numbers q ≡ None → nothing ≡ number_of names q
unfolding Finds number_of
number-absent names numbers q finds e = no-number (position (bytes_eq q) names) (sym (finds q) ∙ e)

-- ---- one name more

-- a name that the map has not gets a number
pub number-added : (before : List ℕ → Option ℕ) (name q : List ℕ) (n : ℕ) → before name ≡ None
    → cond (bytes_eq name q) (Some n) (before q) ≡ or_else (before q) (cond (bytes_eq q name) (Some n) None)
number-added before name q n none = grind (arith, bytes_eq-Decides q name, bytes_eq-Decides name q, none)

push-cases : (b : Bool) (t : List ℕ → Bool) (i : ℕ) (ys : List (List ℕ)) (x : List ℕ)
    → position_from t (i + 1) (ys ++ x ∷ []) ≡ or_else (position_from t (i + 1) ys) (cond (t x) (Some (i + 1 + length ys)) None)
    → cond b (Some i) (position_from t (i + 1) (ys ++ x ∷ [])) ≡ or_else (cond b (Some i) (position_from t (i + 1) ys)) (cond (t x) (Some (i + length (x ∷ ys))) None)
push-cases true t i ys x h = refl
push-cases false t i ys x h = let e : i + 1 + length ys ≡ i + length (x ∷ ys) = omega arith in rw (← e) h

position-push : (t : List ℕ → Bool) (i : ℕ) (xs : List (List ℕ)) (x : List ℕ)
    → position_from t i (xs ++ x ∷ []) ≡ or_else (position_from t i xs) (cond (t x) (Some (i + length xs)) None)
position-push t i [] x = ap (λ (k : ℕ). cond (t x) (Some k) None) (omega arith)
position-push t i (y ∷ ys) x = push-cases (t y) t i ys x (position-push t (i + 1) ys x)

capped-push : (b : Bool) (before : Option ℕ) (k : ℕ) → option_map (λ p. min p nothing) (or_else before (cond b (Some k) None))
    ≡ or_else (option_map (λ p. min p nothing) before) (cond b (Some (min k nothing)) None)
capped-push true None k = refl
capped-push false None k = refl
capped-push b (Some p) k = refl

pub first_number-push : (names : List (List ℕ)) (name q : List ℕ)
    → first_number (names ++ name ∷ []) q ≡ or_else (first_number names q) (cond (bytes_eq q name) (Some (min (length names) nothing)) None)
first_number-push names name q =
    let plus : 0 + length names ≡ length names = omega arith in
    ap (option_map (λ p. min p nothing)) (position_from-zero (bytes_eq q) (names ++ name ∷ []) ∙ position-push (bytes_eq q) 0 names name
    ∙ ap (λ k. or_else (position_from (bytes_eq q) 0 names) (cond (bytes_eq q name) (Some k) None)) plus
    ∙ ap (λ before. or_else before (cond (bytes_eq q name) (Some (length names)) None)) (sym (position_from-zero (bytes_eq q) names)))
    ∙ capped-push (bytes_eq q name) (position (bytes_eq q) names) (length names)

-- the names before one, and that one
pub take-more : {X : Type 0} (f : X → List ℕ) (xs : List X) (i : ℕ) (d : X) → i < length xs
    → take (i + 1) (map f xs) ≡ take i (map f xs) ++ f (get_or xs i d) ∷ []
take-more f [] i d h = absurd (omega arith)
take-more f (x ∷ xs) zero d h = grind arith
take-more f (x ∷ xs) (suc i) d h =
    let e : suc i + 1 ≡ suc (i + 1) = omega arith in rw e (ap (λ ys. f x ∷ ys) (take-more f xs i d (omega arith)))

pub numbers-more : (names : List (Bor (List ℕ))) (i : ℕ) (d : Bor (List ℕ)) (q : List ℕ) (before after : Option ℕ) (number : ℕ)
    → i < length names → number ≡ min i nothing
    → before ≡ first_number (take i (map (λ name. name.now) names)) q
    → after ≡ or_else before (cond (bytes_eq q (get_or names i d).now) (Some number) None)
    → after ≡ first_number (take (i + 1) (map (λ name. name.now) names)) q
numbers-more names i d q before after number below is so_far step =
    let name = (get_or names i d).now in
    let front = take i (map (λ (n : Bor (List ℕ)). n.now) names) in
    let len : length front ≡ i = omega (arith, length-take i (map (λ (n : Bor (List ℕ)). n.now) names), length-map names (λ (n : Bor (List ℕ)). n.now)) in
    step ∙ ap (λ o. or_else o (cond (bytes_eq q name) (Some number) None)) so_far
    ∙ ap (λ k. or_else (first_number front q) (cond (bytes_eq q name) (Some k) None)) (is ∙ ap (λ k. min k nothing) (sym len))
    ∙ sym (first_number-push front name q) ∙ ap (λ ns. first_number ns q) (sym (take-more (λ n. n.now) names i d below))

pub take-whole : {X : Type 0} (f : X → List ℕ) (xs : List X) (i : ℕ) → i ≡ length xs → take i (map f xs) ≡ map f xs
take-whole f xs i e = rw (e, ← length-map xs f) (take-length (map f xs))
