-- How often a number stands in lists, sums over lists, and lists whose numbers ascend.
use Rattle.std.specs.Prelude.{ℕ, suc, ◌+◌, ◌≤◌, List, [], ◌∷◌, cond, eqb, ltb}

-- f of each, added up
abbrev pub total : {A : Type 0} → (A → ℕ) → List A → ℕ
total f [] = 0
total f (x ∷ xs) = f x + total f xs

-- 1 where the two are one number, and else 0
abbrev pub same : ℕ → ℕ → ℕ
same x y = cond (eqb x y) 1 0

-- how often x stands in the list
abbrev pub times : ℕ → List ℕ → ℕ
times x ys = total (same x) ys

-- 1 where x is below n, and else 0
abbrev pub once_below : ℕ → ℕ → ℕ
once_below x n = cond (ltb x n) 1 0

-- the numbers ascend, from low on and below high
abbrev pub Ascends : ℕ → ℕ → List ℕ → Type 0
Ascends low high [] = low ≤ high
Ascends low high (x ∷ xs) = (low ≤ x) × Ascends (suc x) high xs

-- each list ascends below high
abbrev pub AllAscend : ℕ → List (List ℕ) → Type 0
AllAscend high [] = Unit {0}
AllAscend high (l ∷ ls) = Ascends 0 high l × AllAscend high ls
