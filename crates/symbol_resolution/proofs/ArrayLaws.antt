-- The numbers of arrays that are named, ascending.
use Rattle.std.proofs.Common.{◌≡◌, ◌+◌, ◌<◌, ◌≤◌, ℕ, zero, suc, List, [], ◌∷◌, Bool, true, false, cond, refl, ap, ◌∙◌, arith, ◌||◌}
use Rattle.std.specs.Prelude.{nat_eq, nat_lt, All, Contains}
use Rattle.std.specs.List.{filter, range_with_len, list_any}
use Rattle.std.specs.List.Sorted.{IsStrictlyIncreasing}
use Rattle.std.proofs.lemmas.Bool.Decides.{nat_tests}
use Rattle.std.proofs.lemmas.List.Elements.{All-contains, All-contains_itself, All-weaker, All-nil, All-cons}
use Rattle.std.proofs.lemmas.Map.Keys.{sorted_from_strictly_increasing}
use Rattle.func_summary.proofs.Ascending.{has, ascending_is, has-same}

-- all that are kept are below the bound
below_at : (b : Bool) (n x : ℕ) (xs : List ℕ) → nat_lt x n ≡ b → All (λ y. y < n) xs → All (λ y. y < n) (cond b (x ∷ xs) xs)
below_at true n x xs h all = All-cons (λ y. y < n) x xs (let below : x < n = grind (arith, nat_tests, h) in below) all
below_at false n x xs h all = all

below : (n : ℕ) (xs : List ℕ) → All (λ y. y < n) (filter (λ x. nat_lt x n) xs)
below n [] = All-nil (λ y. y < n)
below n (x ∷ xs) = below_at (nat_lt x n) n x (filter (λ x. nat_lt x n) xs) refl (below n xs)

-- a number below the bound is kept where it stands
kept_at : (b : Bool) (n q x : ℕ) (xs : List ℕ) → nat_lt x n ≡ b → q < n → has (cond b (x ∷ xs) xs) q ≡ (nat_eq q x || has xs q)
kept_at true n q x xs h q_below = refl
kept_at false n q x xs h q_below = ap (λ b. b || has xs q) (let other : false ≡ nat_eq q x = grind (arith, nat_tests, h, q_below) in other)

has_below : (n q : ℕ) (xs : List ℕ) → q < n → has (filter (λ x. nat_lt x n) xs) q ≡ has xs q
has_below n q [] h = refl
has_below n q (x ∷ xs) h =
    kept_at (nat_lt x n) n q x (filter (λ x. nat_lt x n) xs) refl h ∙ ap (λ b. nat_eq q x || b) (has_below n q xs h)

same_range : (p q : ℕ → Bool) (a n : ℕ) → ((k : ℕ) → k < a + n → p k ≡ q k) → filter p (range_with_len a n) ≡ filter q (range_with_len a n)
same_range p q a zero h = refl
same_range p q a (suc n) h =
    let rest = same_range p q (a + 1) n (λ k under. h k (omega (arith, under))) in
    ap (λ r. cond (p a) (a ∷ r) r) rest ∙ ap (λ b. cond b (a ∷ filter q (range_with_len (a + 1) n)) (filter q (range_with_len (a + 1) n))) (h a (omega arith))

-- an ascending list with the numbers of another list that are below a bound
pub ascending_below : (n : ℕ) (ys xs : List ℕ) → IsStrictlyIncreasing ys
    → ((x : ℕ) → Contains (filter (λ x. nat_lt x n) xs) x → Contains ys x) → ((x : ℕ) → Contains ys x → Contains (filter (λ x. nat_lt x n) xs) x)
    → ys ≡ filter (λ k. list_any (nat_eq k) xs) (range_with_len 0 n)
ascending_below n ys xs up keeps adds_none =
    let kept = filter (λ x. nat_lt x n) xs in
    let under = All-weaker (λ x. Contains ys x) (λ x. x < 0 + n) (λ x h. omega (arith, All-contains (λ y. y < n) kept x (below n xs) (adds_none x h))) ys (All-contains_itself ys) in
    let above = All-weaker (λ x. Contains ys x) (λ x. 0 ≤ x) (λ x h. omega arith) ys (All-contains_itself ys) in
    ascending_is 0 n ys (sorted_from_strictly_increasing ys up) above under
    ∙ same_range (has ys) (has xs) 0 n (λ k h. has-same ys kept adds_none keeps k ∙ has_below n k xs (omega (arith, h)))
