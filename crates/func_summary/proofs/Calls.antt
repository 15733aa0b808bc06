-- Statements with their places, for the loop over a body.
use Rattle.std.proofs.Common.{◌≡◌, ◌+◌, ℕ, zero, suc, List, [], ◌∷◌, ◌++◌, length, take, Some, refl, ap, ◌∙◌, arith}
use Rattle.std.specs.Prelude.{slice_get, Option}
use Rattle.std.specs.List.{filter_map, enumerate_from, cons_option}
use Rattle.std.proofs.lemmas.List.Elements.{filter_map-append}
use Rattle.gimple_checks.proofs.Lists.{take_here}

enumerate_from-push : {X : Type 0} (n : ℕ) (xs : List X) (x : X) → enumerate_from n (xs ++ x ∷ []) ≡ enumerate_from n xs ++ (n + length xs, x) ∷ []
enumerate_from-push n [] x = ap (λ k. (k, x) ∷ []) (omega arith)
enumerate_from-push n (y ∷ xs) x =
    ap (λ ys. (n, y) ∷ ys) (enumerate_from-push (n + 1) xs x
    ∙ ap (λ k. enumerate_from (n + 1) xs ++ (k, x) ∷ []) (omega arith))

length_here : {X : Type 0} (xs : List X) (i : ℕ) (x : X) → slice_get xs i ≡ Some x → length (take i xs) ≡ i
length_here [] i x h = cc
length_here (y ∷ xs) zero x h = refl
length_here (y ∷ xs) (suc i) x h = ap suc (length_here xs i x h)

-- what the statement at i gives comes next
pub given_here : {X Y : Type 0} (f : ℕ × X → Option Y) (xs : List X) (i : ℕ) (x : X) → slice_get xs i ≡ Some x
    → filter_map f (enumerate_from 0 (take (i + 1) xs)) ≡ filter_map f (enumerate_from 0 (take i xs)) ++ cons_option (f (i, x)) []
given_here f xs i x h =
    ap (λ ys. filter_map f (enumerate_from 0 ys)) (take_here xs i x h)
    ∙ ap (filter_map f) (enumerate_from-push 0 (take i xs) x)
    ∙ filter_map-append f (enumerate_from 0 (take i xs)) ((0 + length (take i xs), x) ∷ [])
    ∙ ap (λ k. filter_map f (enumerate_from 0 (take i xs)) ++ cons_option (f (k, x)) []) (omega (arith, length_here xs i x h))
