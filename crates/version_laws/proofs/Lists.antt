-- Lists at their places, and the first element that passes a test.
use Rattle.std.proofs.Common.{◌≡◌, ◌+◌, ◌<◌, ℕ, zero, suc, List, [], ◌∷◌, length, map, Bool, true, false, true≢false, cond, Some, None, refl, sym, ap, ◌∙◌, arith}
use Rattle.std.specs.Prelude.{Option, not, slice_get, option_map}
use Rattle.std.specs.List.{range_with_len, position_or_len}
use Rattle.std.proofs.lemmas.Option.{none-some, same_Some, slice_get-map}

pub there : {X : Type 0} (xs : List X) (i : ℕ) → i < length xs → (x : X) × (slice_get xs i ≡ Some x)
there [] i lt = absurd (omega (arith, lt))
there (x ∷ xs) zero lt = (x, refl)
there (x ∷ xs) (suc i) lt = there xs i (omega (arith, lt))

pub past_end : {X : Type 0} (xs : List X) → slice_get xs (length xs) ≡ None
past_end [] = refl
past_end (x ∷ xs) = past_end xs

pub ranged : {Y : Type 0} (h : ℕ → Y) (k count i : ℕ) → i < count → slice_get (map h (range_with_len k count)) i ≡ Some (h (k + i))
ranged h k zero i lt = absurd (omega (arith, lt))
ranged h k (suc count) zero lt = let first : k ≡ k + 0 = omega arith in ap (λ (n : ℕ). Some (h n)) first
ranged h k (suc count) (suc i) lt =
    let next : k + 1 + i ≡ k + suc i = omega arith in
    ranged h (k + 1) count i (omega (arith, lt)) ∙ ap (λ (n : ℕ). Some (h n)) next

pub mapped_at : {X Y : Type 0} (h : X → Y) (xs : List X) (i : ℕ) (x : X) → slice_get xs i ≡ Some x → slice_get (map h xs) i ≡ Some (h x)
mapped_at h xs i x here = slice_get-map h xs i ∙ ap (option_map h) here

-- what stands in a mapped list comes from what stands there in the list
pub from_mapped : {X Y : Type 0} (h : X → Y) (xs : List X) (i : ℕ) (y : Y) → slice_get (map h xs) i ≡ Some y → (x : X) × (slice_get xs i ≡ Some x) × (h x ≡ y)
from_mapped {X} {Y} h xs i y here = by (slice_get xs i) refl (sym (slice_get-map h xs i) ∙ here)
  where
    by : (o : Option X) → slice_get xs i ≡ o → option_map h o ≡ Some y → (x : X) × (slice_get xs i ≡ Some x) × (h x ≡ y)
    by None at is = absurd (none-some y is)
    by (Some x) at is = (x, at, same_Some (h x) y is)

-- where some element passes, one stands at the first place that does
pub first_passing : {X : Type 0} (p : X → Bool) (xs : List X) (i : ℕ) (x : X) → slice_get xs i ≡ Some x → p x ≡ true
    → (y : X) × (slice_get xs (position_or_len p xs) ≡ Some y) × (p y ≡ true)
first_passing p [] i x here passes = absurd (none-some x here)
first_passing {X} p (z ∷ zs) i x here passes = by (p z) refl (λ k at. first_passing p zs k x at passes) i here
  where
    by : (b : Bool) → p z ≡ b → ((k : ℕ) → slice_get zs k ≡ Some x → (y : X) × (slice_get zs (position_or_len p zs) ≡ Some y) × (p y ≡ true)) → (k : ℕ) → slice_get (z ∷ zs) k ≡ Some x
        → (y : X) × (slice_get (z ∷ zs) (cond (not b) (1 + position_or_len p zs) 0) ≡ Some y) × (p y ≡ true)
    by true test later k at = (z, refl, test)
    by false test later zero at = absurd (true≢false (sym passes ∙ ap p (sym (same_Some z x at)) ∙ test))
    by false test later (suc k) at =
        let r = later k at in
        let next : 1 + position_or_len p zs ≡ suc (position_or_len p zs) = omega arith in
        (r.0, ap (slice_get (z ∷ zs)) next ∙ r.1, r.2)
