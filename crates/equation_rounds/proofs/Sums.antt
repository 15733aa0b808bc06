-- Sums over the numbers below a bound.
use Rattle.std.proofs.Common.{◌≡◌, ◌≢◌, ℕ, zero, suc, ◌+◌, ◌*◌, ◌<◌, ◌≤◌, refl, sym, subst, arith, inl, inr}
use Rattle.std.proofs.lemmas.Bool.{cases_lt}
use Rattle.equation_rounds.specs.Systems.{sum_below}

pub sum_below-le : (f g : ℕ → ℕ) (n : ℕ) → ((u : ℕ) → u < n → f u ≤ g u) → sum_below f n ≤ sum_below g n
sum_below-le f g zero h = omega arith
sum_below-le f g (suc n) h =
    let before = sum_below-le f g n (λ u lt. h u (omega arith)) in
    let here = h n (omega arith) in
    omega (arith, before, here)

-- sums that are level, of numbers that are not above each other, are of the same numbers
pub sum_below-level : (f g : ℕ → ℕ) (n : ℕ) → ((u : ℕ) → u < n → f u ≤ g u) → sum_below g n ≤ sum_below f n → (u : ℕ) → u < n → f u ≡ g u
sum_below-level f g zero h level u lt = absurd (omega arith)
sum_below-level f g (suc n) h level u lt =
    let before = sum_below-le f g n (λ w l. h w (omega arith)) in
    let here = h n (omega arith) in
    elim (cases_lt u n) [
      | inl below ↦
          let level' : sum_below g n ≤ sum_below f n = omega (arith, before, here) in
          sum_below-level f g n (λ w l. h w (omega arith)) level' u below
      | inr last ↦
          let is : u ≡ n = omega arith in
          let same : f n ≡ g n = omega (arith, before, here) in
          subst (λ w. f w ≡ g w) (sym is) same
    ]

pub sum_below-times : (f : ℕ → ℕ) (most n : ℕ) → ((u : ℕ) → u < n → f u ≤ most) → sum_below f n ≤ n * most
sum_below-times f most zero h = omega arith
sum_below-times f most (suc n) h =
    let before = sum_below-times f most n (λ u lt. h u (omega arith)) in
    let here = h n (omega arith) in
    omega (arith, before, here)

pub sum_below-same : (f g : ℕ → ℕ) (n : ℕ) → ((u : ℕ) → u < n → f u ≡ g u) → sum_below f n ≡ sum_below g n
sum_below-same f g zero h = refl
sum_below-same f g (suc n) h =
    let before = sum_below-same f g n (λ u lt. h u (omega arith)) in
    let here = h n (omega arith) in
    omega (arith, before, here)

-- one more at one number is one more in the sum
pub sum_below-one : (f g : ℕ → ℕ) (more u n : ℕ) → u < n → ((w : ℕ) → w ≢ u → g w ≡ f w) → g u ≡ f u + more → sum_below g n ≡ sum_below f n + more
sum_below-one f g more u zero lt h here = absurd (omega arith)
sum_below-one f g more u (suc n) lt h here =
    elim (cases_lt u n) [
      | inl below ↦
          let before = sum_below-one f g more u n below h here in
          let apart : n ≢ u = λ is. omega arith in
          let last = h n apart in
          omega (arith, before, last)
      | inr last ↦
          let is : u ≡ n = omega arith in
          let before = sum_below-same g f n (λ w l. h w (λ is. omega arith)) in
          let at : g n ≡ f n + more = subst (λ w. g w ≡ f w + more) is here in
          omega (arith, before, at)
    ]

pub sum_below-scaled : (most : ℕ) (f : ℕ → ℕ) (n : ℕ) → sum_below (λ u. most * f u) n ≡ most * sum_below f n
sum_below-scaled most f zero = omega arith
sum_below-scaled most f (suc n) =
    let before = sum_below-scaled most f n in
    omega (arith, before)
