-- Elements of lists at their places.
use Rattle.std.proofs.Common.{◌≡◌, ◌+◌, ◌<◌, ◌≤◌, ℕ, zero, suc, List, [], ◌∷◌, length, Some, None, arith, refl, ap, subst}
use Rattle.std.specs.Prelude.{slice_get, Option, All, IfSome}
use Rattle.std.specs.List.{filter_map, enumerate_from, cons_option}
use Rattle.std.proofs.lemmas.List.Elements.{All-nil, All-cons}

pub not_past : {X : Type 0} (xs : List X) (i : ℕ) → i < length xs → slice_get xs i ≡ None → ⊥
not_past [] i lt h = absurd (omega (arith, lt))
not_past (x ∷ xs) zero lt h = cc
not_past (x ∷ xs) (suc i) lt h = not_past xs i (omega (arith, lt)) h

-- what stands at a place
pub there : {X : Type 0} (xs : List X) (i : ℕ) → i < length xs → (x : X) × (slice_get xs i ≡ Some x)
there [] i lt = absurd (omega (arith, lt))
there (x ∷ xs) zero lt = (x, refl)
there (x ∷ xs) (suc i) lt = there xs i (omega (arith, lt))

-- what is made of elements and their places, where P holds of each
pub all_listed : {X Y : Type 0} (P : Y → Type 0) (g : ℕ → X → Option Y) (n : ℕ) (xs : List X) → ((i : ℕ) (x : X) → slice_get xs i ≡ Some x → IfSome (g (n + i) x) P)
    → All P (filter_map (λ pair. g pair.0 pair.1) (enumerate_from n xs)) × (length (filter_map (λ pair. g pair.0 pair.1) (enumerate_from n xs)) ≤ length xs)
all_listed P g n [] h = (All-nil P, omega arith)
all_listed {X} {Y} P g n (x ∷ xs) h =
    by (g n x) (subst (λ k. IfSome (g k x) P) here (h 0 x refl)) (all_listed P g (n + 1) xs (λ i y at. subst (λ k. IfSome (g k y) P) (next i) (h (suc i) y at)))
  where
    here : n + 0 ≡ n
    here = omega arith

    next : (i : ℕ) → n + suc i ≡ n + 1 + i
    next i = omega arith

    rest : List Y
    rest = filter_map (λ pair. g pair.0 pair.1) (enumerate_from (n + 1) xs)

    by : (o : Option Y) → IfSome o P → All P rest × (length rest ≤ length xs) → All P (cons_option o rest) × (length (cons_option o rest) ≤ suc (length xs))
    by None e l = (l.0, omega (arith, l.1))
    by (Some y) e l = (All-cons P y rest e l.0, omega (arith, l.1))
