-- The number of a name is its place, where it stands nowhere before.
use Rattle.std.proofs.Common.{◌≡◌, ◌+◌, ◌<◌, ◌≤◌, ℕ, zero, suc, List, [], ◌∷◌, ◌++◌, map, take, cond, Bool, true, false, Some, refl, sym, ap, ◌∙◌, arith, append_assoc}
use Rattle.std.specs.Prelude.{◌||◌, slice_get, nat_eq}
use Rattle.std.specs.List.{list_any, position, position_from}
use Rattle.std.specs.Str.{bytes_eq}
use Rattle.std.specs.Cmp.{nat_eq_equiv}
use Rattle.std.specs.Cmp.Lexicographic.{lists_equiv}
use Rattle.std.proofs.lemmas.Iterator.Adapters.{position_from-zero}
use Rattle.std.proofs.lemmas.Bool.{or_parts}
use Rattle.std.proofs.lemmas.Bool.Decides.{nat_tests}
use Rattle.std.proofs.lemmas.List.{append-nil}
use Rattle.std.proofs.lemmas.List.Folds.{list_any-append}
use Rattle.gimple_ir.specs.Names.{is_among, repeats, repeats_after}
use Rattle.gimple_syntax.specs.Numbers.{nothing, number_of, at_number}

pub some_is : {X : Type 0} (x y : X) → Some x ≡ Some y → x ≡ y
some_is x y e = cc

place_from : {X : Type 0} (t : X → Bool) (k : ℕ) (xs : List X) (i : ℕ) (x : X) → slice_get xs i ≡ Some x → t x ≡ true → list_any t (take i xs) ≡ false
    → position_from t k xs ≡ Some (k + i)
place_from t k [] i x here is first = cc
place_from t k (y ∷ xs) zero x here is first =
    let e : y ≡ x = cc in
    ap (λ b. cond b (Some k) (position_from t (k + 1) xs)) (ap t e ∙ is) ∙ ap (λ n. Some n) (omega arith)
place_from t k (y ∷ xs) (suc i) x here is first =
    let each = or_parts (t y) (list_any t (take i xs)) first in
    ap (λ b. cond b (Some k) (position_from t (k + 1) xs)) each.0
    ∙ place_from t (k + 1) xs i x here is each.1 ∙ ap (λ n. Some n) (omega arith)

-- the first that passes
pub place_is : {X : Type 0} (t : X → Bool) (xs : List X) (i : ℕ) (x : X) → slice_get xs i ≡ Some x → t x ≡ true → list_any t (take i xs) ≡ false
    → position t xs ≡ Some i
place_is t xs i x here is first = position_from-zero t xs ∙ place_from t 0 xs i x here is first ∙ ap (λ n. Some n) (omega arith)

pub any_of_map : {X Y : Type 0} (t : Y → Bool) (f : X → Y) (xs : List X) (i : ℕ) → list_any (λ x. t (f x)) (take i xs) ≡ list_any t (take i (map f xs))
any_of_map t f [] zero = refl
any_of_map t f [] (suc i) = refl
any_of_map t f (x ∷ xs) zero = refl
any_of_map t f (x ∷ xs) (suc i) = ap (λ b. t (f x) || b) (any_of_map t f xs i)

pub same_bytes : (name : List ℕ) → bytes_eq name name ≡ true
same_bytes name = (lists_equiv nat_eq_equiv).refl name

-- ---- names

pub number_is : (names : List (List ℕ)) (i : ℕ) (name : List ℕ) → slice_get names i ≡ Some name → is_among (take i names) name ≡ false → i ≤ nothing
    → number_of names name ≡ i
unfolding number_of
number_is names i name here first fits =
    rw (place_is (bytes_eq name) names i name here (same_bytes name) first) (omega (arith, fits))

pub item_at : {A : Type 0} (items : List A) (i : ℕ) → i < nothing → at_number items i ≡ slice_get items i
item_at items i h = let e : nat_eq i nothing ≡ false = grind (arith, nat_tests) in rw e refl

not_before : (before names : List (List ℕ)) (i : ℕ) (name : List ℕ) → repeats_after before names ≡ false → slice_get names i ≡ Some name
    → is_among (before ++ take i names) name ≡ false
not_before before [] i name h here = cc
not_before before (n ∷ names) zero name h here =
    let e : n ≡ name = cc in
    ap (λ ns. is_among ns name) (append-nil before) ∙ ap (is_among before) (sym e) ∙ (or_parts (is_among before n) (repeats_after (before ++ n ∷ []) names) h).0
not_before before (n ∷ names) (suc i) name h here =
    ap (λ ns. is_among ns name) (sym (append_assoc before (n ∷ []) (take i names)))
    ∙ not_before (before ++ n ∷ []) names i name (or_parts (is_among before n) (repeats_after (before ++ n ∷ []) names) h).1 here

-- names that do not repeat
pub is_first : (names : List (List ℕ)) (i : ℕ) (name : List ℕ) → repeats names ≡ false → slice_get names i ≡ Some name → is_among (take i names) name ≡ false
is_first names i name h here = not_before [] names i name h here

-- the second of two lists in which a name is not
pub not_second : (first second : List (List ℕ)) (name : List ℕ) → is_among (first ++ second) name ≡ false → is_among second name ≡ false
not_second first second name h =
    (or_parts (is_among first name) (is_among second name) (sym (list_any-append (bytes_eq name) first second) ∙ h)).1
