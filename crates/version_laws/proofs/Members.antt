-- What stands in a list, and so in the lists that are made of it.
use Rattle.std.proofs.Common.{◌≡◌, ◌+◌, ◌<◌, ℕ, zero, suc, List, [], ◌∷◌, ◌++◌, map, Bool, true, false, true≢false, cond, Some, refl, sym, ap, ◌∙◌, subst, ◌⊎◌, inl, inr, arith}
use Rattle.std.specs.Prelude.{slice_get}
use Rattle.std.specs.List.{filter, flat_map, range_with_len}
use Rattle.std.proofs.lemmas.Option.{none-some, same_Some}

abbrev pub In : {A : Type 0} → A → List A → Type 0
In x [] = ⊥
In x (y ∷ ys) = (x ≡ y) ⊎ In x ys

in_left : {A : Type 0} (x : A) (xs ys : List A) → In x xs → In x (xs ++ ys)
in_left x [] ys h = absurd h
in_left x (y ∷ xs) ys (inl same) = inl same
in_left x (y ∷ xs) ys (inr h) = inr (in_left x xs ys h)

in_right : {A : Type 0} (x : A) (xs ys : List A) → In x ys → In x (xs ++ ys)
in_right x [] ys h = h
in_right x (y ∷ xs) ys h = inr (in_right x xs ys h)

-- what comes of an element at a place
pub in_flat_map : {A B : Type 0} (h : A → List B) (xs : List A) (i : ℕ) (x : A) (y : B) → slice_get xs i ≡ Some x → In y (h x) → In y (flat_map h xs)
in_flat_map h [] i x y here member = absurd (none-some x here)
in_flat_map {A} {B} h (z ∷ xs) zero x y here member = in_left y (h z) (flat_map h xs) (subst (λ (w : A). In y (h w)) (sym (same_Some z x here)) member)
in_flat_map h (z ∷ xs) (suc i) x y here member = in_right y (h z) (flat_map h xs) (in_flat_map h xs i x y here member)

pub in_filter : {A : Type 0} (p : A → Bool) (x : A) (xs : List A) → p x ≡ true → In x xs → In x (filter p xs)
in_filter p x [] passes h = absurd h
in_filter {A} p x (y ∷ xs) passes h = by (p y) refl h (in_filter p x xs passes)
  where
    by : (b : Bool) → p y ≡ b → (x ≡ y) ⊎ In x xs → (In x xs → In x (filter p xs)) → In x (cond b (y ∷ filter p xs) (filter p xs))
    by true test (inl same) later = inl same
    by true test (inr member) later = inr (later member)
    by false test (inl same) later = absurd (true≢false (sym passes ∙ ap p same ∙ test))
    by false test (inr member) later = later member

-- what is made of a number in a range
pub in_range : {A : Type 0} (h : ℕ → A) (first count i : ℕ) → i < count → In (h (first + i)) (map h (range_with_len first count))
in_range h first zero i lt = absurd (omega (arith, lt))
in_range h first (suc count) zero lt = let here : first + 0 ≡ first = omega arith in inl (ap h here)
in_range {A} h first (suc count) (suc i) lt =
    let next : first + 1 + i ≡ first + suc i = omega arith in
    inr (subst (λ (n : ℕ). In (h n) (map h (range_with_len (first + 1) count))) next (in_range h (first + 1) count i (omega (arith, lt))))
