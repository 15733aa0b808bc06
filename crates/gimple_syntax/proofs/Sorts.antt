-- The items of one sort, as a list is passed over.
use Rattle.std.proofs.Common.{◌≡◌, ℕ, suc, drop-cons, ◌+◌, ◌<◌, List, ◌∷◌, ◌++◌, length, take, drop, filter, get_or, cond, Bool, true, Some, slice_get, refl, arith, ap, sym, ◌∙◌, take-append-drop}
use Rattle.std.proofs.lemmas.List.{length-append, take_all}
use Rattle.std.proofs.lemmas.List.Elements.{filter-append}
use Rattle.std.proofs.lemmas.List.Filters.{length-filter_more}
use Rattle.std.proofs.lemmas.Option.{slice_get-get_or}
use Rattle.std.proofs.Math.Seq.{get_or-append_seam}

abbrev pub one_if : Bool → ℕ
one_if b = cond b 1 0

-- one more is passed over, which is of the sort or not
pub passed : {X : Type 0} (p : X → Bool) (xs : List X) (i : ℕ) (x : X) (b : Bool) → i < length xs → x ≡ get_or xs i x → b ≡ p x
    → length (filter p (take (i + 1) xs)) ≡ length (filter p (take i xs)) + one_if b
passed p xs i x b inside at is =
    let more = length-filter_more p xs i x inside in
    let same : one_if (p (get_or xs i x)) ≡ one_if b = ap one_if (ap p (sym at) ∙ sym is) in
    more ∙ ap (λ (n : ℕ). length (filter p (take i xs)) + n) same

-- all are passed over
pub all_passed : {X : Type 0} (p : X → Bool) (xs : List X) (i : ℕ) → i ≡ length xs → length (filter p (take i xs)) ≡ length (filter p xs)
all_passed p xs i e = ap (λ ys. length (filter p ys)) (ap (λ (n : ℕ). take n xs) e ∙ take_all (length xs) xs (omega arith))

kept : {X : Type 0} (p : X → Bool) (x : X) (xs : List X) → p x ≡ true → filter p (x ∷ xs) ≡ x ∷ filter p xs
kept p x xs e = rw e refl

-- the next one of the sort stands behind those that were passed over
pub found : {X : Type 0} (p : X → Bool) (xs : List X) (i n : ℕ) (x : X) → i < length xs → x ≡ get_or xs i x → p x ≡ true
    → n ≡ length (filter p (take i xs)) → slice_get (filter p xs) n ≡ Some x
found p xs i n x inside at is counted =
    let front = filter p (take i xs) in
    let rest = drop (suc i) xs in
    let split : drop i xs ≡ x ∷ rest = drop-cons xs i x inside ∙ ap (λ y. y ∷ rest) (sym at) in
    let all : filter p xs ≡ front ++ x ∷ filter p rest =
    ap (filter p) (sym (take-append-drop i xs)) ∙ filter-append p (take i xs) (drop i xs)
    ∙ ap (λ ys. front ++ filter p ys) split ∙ ap (λ ys. front ++ ys) (kept p x rest is) in
    let long = length-append front (x ∷ filter p rest) in
    ap (λ ys. slice_get ys n) all ∙ slice_get-get_or (front ++ x ∷ filter p rest) n x (omega (arith, counted, long))
    ∙ ap (λ (k : ℕ). Some (get_or (front ++ x ∷ filter p rest) k x)) counted ∙ ap (λ y. Some y) (get_or-append_seam front x (filter p rest) x)
