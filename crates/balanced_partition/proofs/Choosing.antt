-- The best place so far.
use Rattle.std.proofs.Common.{◌≡◌, ℕ, ◌+◌, ◌-◌, ◌*◌, ◌<◌, ◌≤◌, Bool, true, false, ◌&&◌, cond, List, [], ◌∷◌, ◌++◌, length, filter, fold, min, nat_eq, nat_le, refl, sym, ◌∙◌, ap, ap₂, subst, arith, append-nil, eq-eqb, inl, inr}
use Rattle.std.specs.List.{range_with_len}
use Rattle.std.proofs.lemmas.Bool.{le-leb, lt-leb}
use Rattle.std.proofs.lemmas.Bool.Decides.{eqb_tells}
use Rattle.std.proofs.lemmas.List.Elements.{filter-append}
use Rattle.std.proofs.lemmas.List.Sums.{fold_push}
use Rattle.balanced_partition.specs.Cuts.{last_or, weight_of, cut_calls, reach_of, candidates_of, fewest_of, cut_of}
use Rattle.balanced_partition.proofs.Lasts.{last_or-append, range-append, filter-none}

and-false : (b : Bool) → (b && false) ≡ false
and-false true = refl
and-false false = refl

module _ (sizes : List ℕ) (calls : List (ℕ × ℕ)) (aim s reach : ℕ) where
  pub is_candidate : ℕ → Bool
  is_candidate p = nat_le p reach && nat_le aim (2 * weight_of sizes s p)

  -- the candidates up to a place
  pub so_far : ℕ → List ℕ
  so_far place = filter is_candidate (range_with_len (s + 1) (place - s))

  pub fewest_in : List ℕ → ℕ
  fewest_in places = fold (λ fewest p. min fewest (cut_calls calls s p)) (length calls) places

  pub last_in : ℕ → List ℕ → ℕ
  last_in fewest places = last_or reach (filter (λ p. nat_eq (cut_calls calls s p) fewest) places)

  -- what the search holds before the version of that number: the last of the best candidates so far, and its calls
  pub record IsBest (place cut fewest : ℕ) : Type 0 where
    pub fewest_is : fewest ≡ fewest_in (so_far place)
    pub cut_is : cut ≡ last_in fewest (so_far place)

  so_far-more : (place : ℕ) → s ≤ place → so_far (place + 1) ≡ so_far place ++ cond (is_candidate (place + 1)) ((place + 1) ∷ []) []
  unfolding so_far
  so_far-more place h =
      let at : s + 1 + (place - s) ≡ place + 1 = omega (arith, h) in
      ap (filter is_candidate) (range-append (s + 1) (place - s) 1 (place + 1 - s) (omega (arith, h))) ∙
      filter-append is_candidate (range_with_len (s + 1) (place - s)) (range_with_len (s + 1 + (place - s)) 1) ∙
      ap (λ p. filter is_candidate (range_with_len (s + 1) (place - s)) ++ cond (is_candidate p) (p ∷ []) []) at

  pub begins : IsBest s reach (length calls)
  unfolding so_far fewest_in last_in
  begins =
      let none : s - s ≡ 0 = omega arith in
      record { fewest_is = rw none refl; cut_is = rw none refl }

  -- a place that is no candidate
  pub passes_over : (place cut fewest : ℕ) → s ≤ place → weight_of sizes s (place + 1) * 2 < aim → IsBest place cut fewest → IsBest (place + 1) cut fewest
  unfolding is_candidate
  passes_over place cut fewest h light best =
      let fails : is_candidate (place + 1) ≡ false = ap (λ b. nat_le (place + 1) reach && b) (lt-leb aim (2 * weight_of sizes s (place + 1)) (omega (arith, light))) ∙ and-false (nat_le (place + 1) reach) in
      let same : so_far (place + 1) ≡ so_far place = so_far-more place h ∙ ap (λ b. so_far place ++ cond b ((place + 1) ∷ []) []) fails ∙ append-nil (so_far place) in
      record {
        fewest_is = best.fewest_is ∙ sym (ap fewest_in same);
        cut_is = best.cut_is ∙ sym (ap (last_in fewest) same);
      }

  one_more : (place : ℕ) → s ≤ place → place + 1 ≤ reach → aim ≤ 2 * weight_of sizes s (place + 1) → so_far (place + 1) ≡ so_far place ++ (place + 1) ∷ []
  unfolding is_candidate
  one_more place h inside heavy =
      let passes : is_candidate (place + 1) ≡ true = ap₂ (λ a b. a && b) (le-leb (place + 1) reach inside) (le-leb aim (2 * weight_of sizes s (place + 1)) heavy) in
      so_far-more place h ∙ ap (λ b. so_far place ++ cond b ((place + 1) ∷ []) []) passes

  fewest_in-more : (places : List ℕ) (p : ℕ) → fewest_in (places ++ p ∷ []) ≡ min (fewest_in places) (cut_calls calls s p)
  unfolding fewest_in
  fewest_in-more places p = fold_push (λ fewest q. min fewest (cut_calls calls s q)) (length calls) places p

  last_in-more : (fewest : ℕ) (places : List ℕ) (p : ℕ) (t : Bool) → nat_eq (cut_calls calls s p) fewest ≡ t → last_in fewest (places ++ p ∷ []) ≡ cond t p (last_in fewest places)
  unfolding last_in
  last_in-more fewest places p t is =
      let test : ℕ → Bool = λ q. nat_eq (cut_calls calls s q) fewest in
      let whole : last_or reach (filter test (places ++ p ∷ [])) ≡ last_or (last_or reach (filter test places)) (cond t (p ∷ []) []) =
      ap (last_or reach) (filter-append test places (p ∷ [])) ∙ last_or-append reach (filter test places) (filter test (p ∷ [])) ∙ ap (λ b. last_or (last_or reach (filter test places)) (cond b (p ∷ []) [])) is in
      let go : (b : Bool) → last_or (last_or reach (filter test places)) (cond b (p ∷ []) []) ≡ cond b p (last_or reach (filter test places)) = elim [ true ↦ refl | false ↦ refl ] in
      whole ∙ go t

  -- a candidate that cuts no more calls than the best so far
  pub takes : (place cut fewest crossing : ℕ) → s ≤ place → place + 1 ≤ reach → aim ≤ 2 * weight_of sizes s (place + 1) → crossing ≡ cut_calls calls s (place + 1) → crossing ≤ fewest → IsBest place cut fewest → IsBest (place + 1) (place + 1) crossing
  takes place cut fewest crossing h inside heavy is less best =
      let more = one_more place h inside heavy in
      let p = place + 1 in
      let was = best.fewest_is in
      let all = fewest_in-more (so_far place) p in
      record {
        fewest_is = let least : crossing ≡ min (fewest_in (so_far place)) (cut_calls calls s p) = omega (arith, is, less, was) in least ∙ sym all ∙ sym (ap fewest_in more);
        cut_is = sym (ap (last_in crossing) more ∙ last_in-more crossing (so_far place) p true (eq-eqb (cut_calls calls s p) crossing (sym is)));
      }

  -- a candidate that cuts more calls
  pub leaves : (place cut fewest crossing : ℕ) → s ≤ place → place + 1 ≤ reach → aim ≤ 2 * weight_of sizes s (place + 1) → crossing ≡ cut_calls calls s (place + 1) → fewest < crossing → IsBest place cut fewest → IsBest (place + 1) cut fewest
  leaves place cut fewest crossing h inside heavy is less best =
      let more = one_more place h inside heavy in
      let p = place + 1 in
      let was = best.fewest_is in
      let all = fewest_in-more (so_far place) p in
      let other : nat_eq (cut_calls calls s p) fewest ≡ false = elim (eqb_tells (cut_calls calls s p) fewest) [
        | inl same ↦ let level = same.1 in absurd (omega (arith, level, is, less))
        | inr apart ↦ apart.0
      ] in
      record {
        fewest_is = let least : fewest ≡ min (fewest_in (so_far place)) (cut_calls calls s p) = omega (arith, is, less, was) in least ∙ sym all ∙ sym (ap fewest_in more);
        cut_is = best.cut_is ∙ sym (ap (last_in fewest) more ∙ last_in-more fewest (so_far place) p false other);
      }

  pub same_best : (place cut fewest cut' fewest' : ℕ) → cut' ≡ cut → fewest' ≡ fewest → IsBest place cut fewest → IsBest place cut' fewest'
  same_best place cut fewest cut' fewest' cut_is fewest_is best = subst (λ x. IsBest place x fewest') (sym cut_is) (subst (λ y. IsBest place cut y) (sym fewest_is) best)

  -- the candidates end where the partition reaches
  so_far-all : s < reach → reach ≤ length sizes → reach ≡ reach_of sizes aim s → so_far reach ≡ candidates_of sizes aim s
  unfolding so_far candidates_of is_candidate
  so_far-all after within is =
      let m = reach - s in
      let k = length sizes - reach in
      let whole : length sizes - s ≡ m + k = omega (arith, after, within) in
      let beyond : filter is_candidate (range_with_len (s + 1 + m) k) ≡ [] = filter-none is_candidate (s + 1 + m) k (λ q above below. ap (λ b. b && nat_le aim (2 * weight_of sizes s q)) (lt-leb q reach (omega (arith, above, after)))) in
      let split : filter is_candidate (range_with_len (s + 1) (length sizes - s)) ≡ filter is_candidate (range_with_len (s + 1) m) =
      ap (filter is_candidate) (range-append (s + 1) m k (length sizes - s) whole) ∙ filter-append is_candidate (range_with_len (s + 1) m) (range_with_len (s + 1 + m) k) ∙ ap (λ xs. filter is_candidate (range_with_len (s + 1) m) ++ xs) beyond ∙ append-nil (filter is_candidate (range_with_len (s + 1) m)) in
      sym split ∙ ap (λ r. filter (λ p. nat_le p r && nat_le aim (2 * weight_of sizes s p)) (range_with_len (s + 1) (length sizes - s))) is

  pub ends : (cut fewest : ℕ) → s < reach → reach < length sizes → reach ≡ reach_of sizes aim s → IsBest reach cut fewest → cut ≡ cut_of sizes aim s calls
  unfolding cut_of fewest_of fewest_in last_in
  ends cut fewest after within is best =
      let all = so_far-all after (omega (arith, within)) is in
      let least : fewest ≡ fewest_of sizes aim s calls = best.fewest_is ∙ ap fewest_in all in
      let other : nat_eq (reach_of sizes aim s) (length sizes) ≡ false = elim (eqb_tells (reach_of sizes aim s) (length sizes)) [
        | inl same ↦ let level = same.1 in absurd (omega (arith, level, is, within))
        | inr apart ↦ apart.0
      ] in
      best.cut_is ∙ ap₂ (λ f places. last_in f places) least all ∙ ap (λ r. last_or r (filter (λ p. nat_eq (cut_calls calls s p) (fewest_of sizes aim s calls)) (candidates_of sizes aim s))) is ∙ sym (ap (λ b. cond b (length sizes) (last_or (reach_of sizes aim s) (filter (λ p. nat_eq (cut_calls calls s p) (fewest_of sizes aim s calls)) (candidates_of sizes aim s)))) other)

-- a partition that reaches the end
pub cut_of-end : (sizes : List ℕ) (calls : List (ℕ × ℕ)) (aim s : ℕ) → reach_of sizes aim s ≡ length sizes → cut_of sizes aim s calls ≡ length sizes
unfolding cut_of
cut_of-end sizes calls aim s is =
    ap (λ b. cond b (length sizes) (last_or (reach_of sizes aim s) (filter (λ p. nat_eq (cut_calls calls s p) (fewest_of sizes aim s calls)) (candidates_of sizes aim s)))) (eq-eqb (reach_of sizes aim s) (length sizes) is)
