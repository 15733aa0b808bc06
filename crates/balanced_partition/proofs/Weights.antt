-- Sums of sizes between places, and how far a partition reaches.
use Rattle.std.proofs.Common.{◌≡◌, ℕ, zero, suc, ◌+◌, ◌-◌, ◌<◌, ◌≤◌, Bool, true, false, List, length, sum, take, drop, nat_le, refl, sym, ◌∙◌, ap, subst, arith, inl, inr, ◌⊎◌}
use Rattle.std.specs.List.{slice_range}
use Rattle.std.proofs.lemmas.Bool.{cases_lt, leb-false, lt-leb}
use Rattle.std.proofs.lemmas.List.Sums.{sum_by-append, sum_by-take-drop, sum_by-take-le}
use Rattle.std.proofs.lemmas.List.Folds.{drop_split}
use Rattle.balanced_partition.specs.Cuts.{weight_of, reach_of, last_or}
use Rattle.balanced_partition.proofs.Lasts.{last_filter, filter-none}

pub weight_of-sums : (sizes : List ℕ) (s p : ℕ) → s ≤ p → weight_of sizes s p + sum (take s sizes) ≡ sum (take p sizes)
unfolding weight_of
weight_of-sums sizes s p h =
    let split : sum (drop s sizes) ≡ sum (slice_range sizes s p) + sum (drop p sizes) = ap sum (drop_split sizes s p h) ∙ sum_by-append (λ x. x) (slice_range sizes s p) (drop p sizes) in
    let first : sum (take s sizes) + sum (drop s sizes) ≡ sum sizes = sum_by-take-drop (λ x. x) sizes s in
    let second : sum (take p sizes) + sum (drop p sizes) ≡ sum sizes = sum_by-take-drop (λ x. x) sizes p in
    omega (arith, split, first, second)

pub weight_of-add : (sizes : List ℕ) (s p q : ℕ) → s ≤ p → p ≤ q → weight_of sizes s q ≡ weight_of sizes s p + weight_of sizes p q
weight_of-add sizes s p q first second =
    let a = weight_of-sums sizes s p first in
    let b = weight_of-sums sizes p q second in
    let c = weight_of-sums sizes s q (omega (arith, first, second)) in
    omega (arith, a, b, c)

pub weight_of-le-sum : (sizes : List ℕ) (s p : ℕ) → s ≤ p → weight_of sizes s p ≤ sum sizes
weight_of-le-sum sizes s p h =
    let a = weight_of-sums sizes s p h in
    let b : sum (take p sizes) ≤ sum sizes = sum_by-take-le (λ x. x) sizes p in
    omega (arith, a, b)

module _ (sizes : List ℕ) (aim : ℕ) (s : ℕ) where
  -- a place as far as the partition goes, one version at least
  pub record IsReach (p : ℕ) : Type 0 where
    pub after : s < p
    pub within : p ≤ length sizes
    pub fits : (p ≡ s + 1) ⊎ (weight_of sizes s p ≤ aim)
    pub stops : p < length sizes → aim < weight_of sizes s (p + 1)

  pub reach_of-is : (p : ℕ) → IsReach p → reach_of sizes aim s ≡ p
  unfolding reach_of
  reach_of-is p r =
      let test : ℕ → Bool = λ q. nat_le (weight_of sizes s q) aim in
      let after = r.after in
      let within = r.within in
      let over : (q : ℕ) → p < q → q < s + 1 + (length sizes - s) → test q ≡ false = λ q above below.
      let stop = r.stops (omega (arith, above, below, after)) in
      let more = weight_of-add sizes s (p + 1) q (omega (arith, after)) (omega (arith, above)) in
      lt-leb (weight_of sizes s q) aim (omega (arith, stop, more)) in
      let go : (t : Bool) → test p ≡ t → reach_of sizes aim s ≡ p = elim [
        | true ↦ λ is. last_filter test (s + 1) (length sizes - s) (s + 1) p (omega (arith, after)) (omega (arith, after, within)) is over
        | false ↦ λ is.
            elim r.fits [
              | inl one ↦
                  let none : (q : ℕ) → s + 1 ≤ q → q < s + 1 + (length sizes - s) → test q ≡ false = λ q above below.
                  elim (cases_lt p q) [
                    | inl later ↦ over q later below
                    | inr here ↦ let same : p ≡ q = omega (arith, one, above, here) in subst (λ x. test x ≡ false) same is
                  ] in
                  ap (last_or (s + 1)) (filter-none test (s + 1) (length sizes - s) none) ∙ sym one
              | inr fit ↦ let more = leb-false (weight_of sizes s p) aim is in absurd (omega (arith, fit, more))
            ]
      ] in
      go (test p) refl

  found : (k p : ℕ) → p + k ≡ length sizes → s < p → (p ≡ s + 1) ⊎ (weight_of sizes s p ≤ aim) → IsReach (reach_of sizes aim s)
  found zero p is after fits =
      let r : IsReach p = record { after = after; within = omega (arith, is); fits = fits; stops = λ lt. absurd (omega (arith, is, lt)) } in
      subst IsReach (sym (reach_of-is p r)) r
  found (suc k) p is after fits =
      elim (cases_lt aim (weight_of sizes s (p + 1))) [
        | inl over ↦
            let r : IsReach p = record { after = after; within = omega (arith, is); fits = fits; stops = λ lt. over } in
            subst IsReach (sym (reach_of-is p r)) r
        | inr fit ↦ found k (p + 1) (omega (arith, is)) (omega (arith, after)) (inr fit)
      ]

  pub reach_of-IsReach : s < length sizes → IsReach (reach_of sizes aim s)
  reach_of-IsReach h = found (length sizes - (s + 1)) (s + 1) (omega (arith, h)) (omega arith) (inl refl)
