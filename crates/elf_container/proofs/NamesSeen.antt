-- A name added to those that were seen.
use Rattle.std.proofs.Common.{◌≡◌, ◌||◌, ◌+◌, ◌<◌, ℕ, zero, suc, length, get_or, map, arith, List, [], ◌∷◌, ◌++◌, take, drop, Bool, true, false, refl, ap, ◌∙◌, sym, Some, append_assoc}
use Rattle.std.specs.Prelude.{is_some, slice_get, Option}
use Rattle.std.proofs.lemmas.List.Folds.{list_any-append}
use Rattle.gimple_ir.specs.Names.{is_among, repeats_after}
use Rattle.std.specs.Str.{bytes_eq}
use Rattle.std.specs.Ordering.{nat_cmp}
use Rattle.std.specs.Cmp.{nat_eq_equiv}
use Rattle.std.specs.Cmp.Lexicographic.{slice_cmp, lists_equiv}
use Rattle.std.specs.BTreeMap.{BTreeMap, UpdatesBy, get_by}
use Rattle.std.proofs.lemmas.Map.Text.{btree_map_updates_str}
use mathlib.Core.Bool.{cond}
use denote.Ref.{Bor}
use Rattle.elf_container.specs.SeenNames.{holds}

-- what is left there begins with it
pub drop_here : {X : Type 0} (xs : List X) (i : ℕ) (x : X) → slice_get xs i ≡ Some x → drop i xs ≡ x ∷ drop (i + 1) xs
drop_here [] i x h = cc
drop_here (y ∷ xs) zero x h = grind arith
drop_here (y ∷ xs) (suc i) x h = let e : suc i + 1 ≡ suc (i + 1) = omega arith in rw e (drop_here xs i x h)

-- it comes next to those before it
pub take_here : {X : Type 0} (xs : List X) (i : ℕ) (x : X) → slice_get xs i ≡ Some x → take (i + 1) xs ≡ take i xs ++ x ∷ []
take_here [] i x h = cc
take_here (y ∷ xs) zero x h = grind arith
take_here (y ∷ xs) (suc i) x h = let e : suc i + 1 ≡ suc (i + 1) = omega arith in rw e (ap (λ ys. y ∷ ys) (take_here xs i x h))

-- a mapped list has the mapped element
pub map_here : {X Y : Type 0} (f : X → Y) (xs : List X) (i : ℕ) (x : X) → slice_get xs i ≡ Some x → slice_get (map f xs) i ≡ Some (f x)
map_here f [] i x h = cc
map_here f (y ∷ xs) zero x h = ap (λ z. Some (f z)) (cc)
map_here f (y ∷ xs) (suc i) x h = map_here f xs i x h

pub slice_get_at : {X : Type 0} (xs : List X) (i : ℕ) (x : X) → i < length xs → x ≡ get_or xs i x → slice_get xs i ≡ Some x
slice_get_at [] i x h e = absurd (omega arith)
slice_get_at (y ∷ xs) zero x h e = cc
slice_get_at (y ∷ xs) (suc i) x h e = slice_get_at xs i x (omega arith) e

is_some-cond : {X : Type 0} (b : Bool) (x : X) (o : Option X) → is_some (cond b (Some x) o) ≡ (b || is_some o)
is_some-cond true x o = refl
is_some-cond false x o = refl

pub holds-add : (name key : List ℕ) (old new : BTreeMap (Bor (List ℕ)) (Unit {0})) → key ≡ name
    → UpdatesBy (λ x y. slice_cmp nat_cmp x.now y.now) (λ k. slice_cmp nat_cmp key k.now) old new (Some tt)
    → (q : List ℕ) → holds new q ≡ (bytes_eq q name || holds old q)
holds-add name key old new same updates q =
    ap is_some (btree_map_updates_str key old new (Some tt) updates q)
    ∙ is_some-cond (bytes_eq key q) tt (get_by (λ k. slice_cmp nat_cmp q k.now) old)
    ∙ ap (λ b. b || holds old q) ((lists_equiv nat_eq_equiv).symm key q ∙ ap (bytes_eq q) same)

-- ---- names that stand before

pub is_among-add : (before : List (List ℕ)) (name q : List ℕ) → is_among (before ++ name ∷ []) q ≡ (bytes_eq q name || is_among before q)
is_among-add before name q = list_any-append (bytes_eq q) before (name ∷ []) ∙ or-last (is_among before q) (bytes_eq q name)
  where
    or-last : (a b : Bool) → (a || (b || false)) ≡ (b || a)
    or-last true true = refl
    or-last true false = refl
    or-last false true = refl
    or-last false false = refl

-- the names seen after the one at i, where those of `first` and those before it were seen
pub seen-add : (first names : List (List ℕ)) (i : ℕ) (name : List ℕ) (old new : BTreeMap (Bor (List ℕ)) (Unit {0}))
    → slice_get names i ≡ Some name
    → ((q : List ℕ) → holds old q ≡ is_among (first ++ take i names) q)
    → ((q : List ℕ) → holds new q ≡ (bytes_eq q name || holds old q))
    → (q : List ℕ) → holds new q ≡ is_among (first ++ take (i + 1) names) q
seen-add first names i name old new here before added q =
    added q ∙ ap (λ b. bytes_eq q name || b) (before q) ∙ sym (is_among-add (first ++ take i names) name q)
    ∙ ap (λ ns. is_among ns q) (append_assoc first (take i names) (name ∷ []))
    ∙ sym (ap (λ ns. is_among (first ++ ns) q) (take_here names i name here))

-- whether a name repeats, from the one at i on
pub repeats_after-here : (names : List (List ℕ)) (i : ℕ) (name : List ℕ) → slice_get names i ≡ Some name
    → repeats_after (take i names) (drop i names) ≡ (is_among (take i names) name || repeats_after (take (i + 1) names) (drop (i + 1) names))
repeats_after-here names i name here =
    ap (repeats_after (take i names)) (drop_here names i name here)
    ∙ ap (λ ns. is_among (take i names) name || repeats_after ns (drop (i + 1) names)) (sym (take_here names i name here))
