-- What a binary search among arrays in the order of their numbers finds.
use Rattle.std.proofs.Common.{◌≡◌, ◌≢◌, ℕ, zero, suc, ◌+◌, ◌<◌, ◌≤◌, List, [], ◌∷◌, length, get_or, Result, Ok, Err, IfOk, IfErr, refl, sym, ap, ◌∙◌, inl, inr, arith}
use Rattle.std.specs.List.Sorted.{IsSearchInRange, IsBinarySearchResult, IsNonDecreasingBy}
use Rattle.std.specs.Ordering.{nat_cmp, ordering_index}
use Rattle.std.proofs.lemmas.Cmp.{ranked}
use Rattle.std.specs.Prelude.{◌⊎◌}
use Rattle.std.proofs.lemmas.Bool.{cases_lt}
use Rattle.std.proofs.lemmas.Bool.Decides.{nat_tests}
use Rattle.gimple_ir.specs.declared.unit.ArrayUse.{ArrayUse}
use Rattle.ipa_transform.specs.Versioned.{use_of}
use Rattle.ipa_transform.specs.Members.{Ascends}

abbrev number_at : List ArrayUse → ℕ → ArrayUse → ℕ
number_at us i d = (get_or us i d).local

rises : (us : List ArrayUse) → Ascends us → (i j : ℕ) (d : ArrayUse) → i < j → j < length us → number_at us i d < number_at us j d
rises [] a i j d lt inside = absurd (omega (arith, inside))
rises (u ∷ []) a i j d lt inside = absurd (omega (arith, lt, inside))
rises (u ∷ w ∷ us) a zero zero d lt inside = absurd (omega (arith, lt))
rises (u ∷ w ∷ us) a zero (suc zero) d lt inside = a.0
rises (u ∷ w ∷ us) a zero (suc (suc j)) d lt inside = omega (arith, a.0, rises (w ∷ us) a.1 zero (suc j) d (omega arith) (omega (arith, inside)))
rises (u ∷ w ∷ us) a (suc i) zero d lt inside = absurd (omega (arith, lt))
rises (u ∷ w ∷ us) a (suc i) (suc j) d lt inside = rises (w ∷ us) a.1 i j d (omega (arith, lt)) (omega (arith, inside))

later : (u : ArrayUse) (us : List ArrayUse) → Ascends (u ∷ us) → Ascends us
later u [] a = tt
later u (w ∷ us) a = a.1

found : (us : List ArrayUse) → Ascends us → (array at : ℕ) (d : ArrayUse) → at < length us → number_at us at d ≡ array → use_of us array ≡ at
found [] a array at d inside here = absurd (omega (arith, inside))
found (u ∷ us) a array zero d inside here = grind (arith, nat_tests)
found (u ∷ us) a array (suc at) d inside here =
    let before : u.local < array = omega (arith, here, rises (u ∷ us) a zero (suc at) d (omega arith) inside) in
    let rest = found us (later u us a) array at d (omega (arith, inside)) here in
    grind (arith, nat_tests)

absent : (us : List ArrayUse) (array : ℕ) → ((k : ℕ) (d : ArrayUse) → k < length us → number_at us k d ≢ array) → use_of us array ≡ length us
absent [] array h = refl
absent (u ∷ us) array h =
    let here : u.local ≢ array = h zero u (omega arith) in
    let rest = absent us array (λ k d inside. h (suc k) d (omega (arith, inside))) in
    grind (arith, nat_tests)

one : (ws : List ArrayUse) (k : ℕ) → k < length ws → ArrayUse
one [] k h = absurd (omega (arith, h))
one (w ∷ ws) k h = w

module _ (us : List ArrayUse) (ascends : Ascends us) (array : ℕ) where
  comparisons_rise : IsNonDecreasingBy (λ u. ordering_index (nat_cmp u.local array)) us
  comparisons_rise i j d le inside =
      let numbers_rise : number_at us i d ≤ number_at us j d = grind (arith, rises us ascends i j d, λ (same : i ≡ j). ap (λ k. number_at us k d) same) in
      grind (arith, nat_tests)

  -- the place is the first that has the number, or there is none
  pub searched : (r : Result ℕ ℕ) → IsSearchInRange r (length us) → IsBinarySearchResult (λ u. nat_cmp u.local array) us r
      → record { found : IfOk r (λ at. use_of us array ≡ at); absent : IfErr r (λ at. use_of us array ≡ length us) }
  searched (Ok at) inside equal = record {
    found = found us ascends array at (one us at inside) inside (ranked _ array _ (sym (equal (one us at inside))));
    absent = tt;
  }
  searched (Err at) inside parted = record {
    found = tt;
    absent = absent us array (λ k d below. apart k d below (cases_lt k at));
  }
    where
      smaller : (k : ℕ) (d : ArrayUse) → k < at → number_at us k d < array
      smaller k d lt = ranked _ array _ (sym ((parted comparisons_rise).0 k d (omega arith) lt))

      greater : (k : ℕ) (d : ArrayUse) → at ≤ k → k < length us → array < number_at us k d
      greater k d le below = ranked _ array _ (sym ((parted comparisons_rise).1 k d le below))

      apart : (k : ℕ) (d : ArrayUse) → k < length us → (k < at) ⊎ (at ≤ k) → number_at us k d ≢ array
      apart k d below (inl lt) same = omega (arith, same, smaller k d lt)
      apart k d below (inr le) same = omega (arith, same, greater k d le below)
