-- The ranges join up, and there are few of them.
use Rattle.std.proofs.Common.{◌≡◌, ℕ, zero, suc, ◌+◌, ◌-◌, ◌*◌, ◌<◌, ◌≤◌, Bool, true, false, cond, List, [], ◌∷◌, length, sum, filter, nat_eq, nat_le, refl, sym, ◌∙◌, ap, subst, arith, inl, inr, ◌⊎◌, ◌&&◌}
use Rattle.std.specs.Int.{div_ceil}
use Rattle.std.proofs.Math.Nat.{suc-mul, le_of_mul-le-mul_right}
use Rattle.std.proofs.lemmas.Bool.{cases_lt, le-ltb, true≢false, leb-true, lt-ltb}
use Rattle.std.proofs.lemmas.Grind.{div_ceil_times}
use Rattle.balanced_partition.specs.Cuts.{weight_of, reach_of, candidates_of, fewest_of, cut_of, cut_calls, cuts_from, cuts_of, JoinUp, last_or}
use Rattle.balanced_partition.proofs.Lasts.{last_filters}
use Rattle.balanced_partition.proofs.Weights.{reach_of-IsReach, weight_of-add, weight_of-le-sum}
use Rattle.balanced_partition.proofs.Choosing.{cut_of-end}

both : (a b : Bool) → (a && b) ≡ true → (a ≡ true) × (b ≡ true)
both true true is = (refl, refl)
both true false is = absurd (true≢false (sym is))
both false b is = absurd (true≢false (sym is))

module _ (sizes : List ℕ) (calls : List (ℕ × ℕ)) (aim : ℕ) where
  -- a cut ends all, or its partition has half of the aim, or it is before a version that has
  pub record IsCut (s c : ℕ) : Type 0 where
    pub after : s < c
    pub within : c ≤ length sizes
    pub kind : (c ≡ length sizes) ⊎ (aim ≤ 2 * weight_of sizes s c) ⊎ ((c < length sizes) × (2 * weight_of sizes s c < aim) × (aim < weight_of sizes s (c + 1)))

  pub cut_of-IsCut : (s : ℕ) → s < length sizes → IsCut s (cut_of sizes aim s calls)
  unfolding cut_of candidates_of
  cut_of-IsCut s h =
      let reach = reach_of sizes aim s in
      let r = reach_of-IsReach sizes aim s h in
      let r_after = r.after in
      let r_within = r.within in
      elim (cases_lt reach (length sizes)) [
        | inr last ↦
            let is : reach ≡ length sizes = omega (arith, last, r_within) in
            subst (IsCut s) (sym (cut_of-end sizes calls aim s is)) (record { after = h; within = omega arith; kind = inl refl })
        | inl inside ↦
            let over = r.stops inside in
            let at_reach : IsCut s reach = record {
              after = r_after;
              within = r_within;
              kind = inr (elim (cases_lt (2 * weight_of sizes s reach) aim) [ inl light ↦ inr (inside, light, over) | inr heavy ↦ inl heavy ]);
            } in
            let go : (t : Bool) → IsCut s (cond t (length sizes) (last_or reach (filter (λ place. nat_eq (cut_calls calls s place) (fewest_of sizes aim s calls)) (candidates_of sizes aim s)))) = elim [
              | true ↦ record { after = h; within = omega arith; kind = inl refl }
              | false ↦ last_filters (λ place. nat_le place reach && nat_le aim (2 * weight_of sizes s place)) (λ place. nat_eq (cut_calls calls s place) (fewest_of sizes aim s calls)) (IsCut s) (s + 1) (length sizes - s) reach at_reach (λ q above passes.
                  let tests = both (nat_le q reach) (nat_le aim (2 * weight_of sizes s q)) passes in
                  let near = leb-true q reach tests.0 in
                  record { after = omega (arith, above); within = omega (arith, near, r_within); kind = inr (inl (leb-true aim (2 * weight_of sizes s q) tests.1)) })
            ] in
            go (nat_eq reach (length sizes))
      ]

  cuts_from-zero : (s : ℕ) → cuts_from sizes calls aim zero s ≡ []
  unfolding cuts_from
  cuts_from-zero s = refl

  pub cuts_from-more : (k s : ℕ) → s < length sizes → cuts_from sizes calls aim (suc k) s ≡ record { from = s; to = cut_of sizes aim s calls } ∷ cuts_from sizes calls aim k (cut_of sizes aim s calls)
  unfolding cuts_from
  cuts_from-more k s h = ap (λ b. cond b (record { from = s; to = cut_of sizes aim s calls } ∷ cuts_from sizes calls aim k (cut_of sizes aim s calls)) []) (lt-ltb s (length sizes) h)

  pub cuts_from-end : (k s : ℕ) → length sizes ≤ s → cuts_from sizes calls aim k s ≡ []
  unfolding cuts_from
  cuts_from-end zero s h = refl
  cuts_from-end (suc k) s h = ap (λ b. cond b (record { from = s; to = cut_of sizes aim s calls } ∷ cuts_from sizes calls aim k (cut_of sizes aim s calls)) []) (le-ltb s (length sizes) h)

  pub cuts_from-JoinUp : (k s : ℕ) → s ≤ length sizes → length sizes ≤ s + k → JoinUp s (length sizes) (cuts_from sizes calls aim k s)
  cuts_from-JoinUp zero s h enough =
      let is : s ≡ length sizes = omega (arith, h, enough) in
      subst (JoinUp s (length sizes)) (sym (cuts_from-end zero s (omega (arith, enough)))) is
  cuts_from-JoinUp (suc k) s h enough =
      elim (cases_lt s (length sizes)) [
        | inr last ↦ let is : s ≡ length sizes = omega (arith, h, last) in subst (JoinUp s (length sizes)) (sym (cuts_from-end (suc k) s last)) is
        | inl inside ↦
            let cut = cut_of-IsCut s inside in
            let after = cut.after in
            let rest = cuts_from-JoinUp k (cut_of sizes aim s calls) cut.within (omega (arith, after, enough)) in
            subst (JoinUp s (length sizes)) (sym (cuts_from-more k s inside)) (refl, after, rest)
      ]

  -- as many times the aim as there are ranges: four times the sum at most, and once more where the first version has
  -- less than half of the aim
  pub IsFew : ℕ → ℕ → Type 0
  IsFew count s = (count * aim ≤ 4 * weight_of sizes s (length sizes) + aim) × (s < length sizes → aim ≤ 2 * weight_of sizes s (s + 1) → count * aim ≤ 4 * weight_of sizes s (length sizes))

  few-none : (s : ℕ) → IsFew 0 s
  unfolding IsFew
  few-none s = (omega arith, λ inside heavy. omega arith)

  few-more : (s c count : ℕ) → s < length sizes → IsCut s c → (c ≡ length sizes → count ≡ 0) → IsFew count c → IsFew (suc count) s
  unfolding IsFew
  few-more s c count h cut last rest =
      let after = cut.after in
      let within = cut.within in
      let whole = weight_of-add sizes s c (length sizes) (omega (arith, after)) within in
      let one = weight_of-add sizes s (s + 1) c (omega arith) (omega (arith, after)) in
      let times = suc-mul count aim in
      elim cut.kind [
        | inl end ↦
            let none : count * aim ≡ 0 = ap (λ n. n * aim) (last end) ∙ omega arith in
            (omega (arith, times, none), λ inside heavy. omega (arith, times, none, whole, one, heavy))
        | inr (inl half) ↦ (let few = rest.0 in omega (arith, times, whole, half, few), λ inside heavy. let few = rest.0 in omega (arith, times, whole, half, few))
        | inr (inr (inside, light, over)) ↦
            let next = weight_of-add sizes s c (c + 1) (omega (arith, after)) (omega arith) in
            let few = rest.1 inside (omega (arith, light, over, next)) in
            (omega (arith, times, whole, few), λ _ heavy. absurd (omega (arith, heavy, one, light)))
      ]

  pub cuts_from-few : (k s : ℕ) → s ≤ length sizes → IsFew (length (cuts_from sizes calls aim k s)) s
  cuts_from-few zero s h = subst (λ xs. IsFew (length xs) s) (sym (cuts_from-zero s)) (few-none s)
  cuts_from-few (suc k) s h =
      elim (cases_lt s (length sizes)) [
        | inr last ↦ subst (λ xs. IsFew (length xs) s) (sym (cuts_from-end (suc k) s last)) (few-none s)
        | inl inside ↦
            let c = cut_of sizes aim s calls in
            let cut = cut_of-IsCut s inside in
            let last : c ≡ length sizes → length (cuts_from sizes calls aim k c) ≡ 0 = λ is. ap length (cuts_from-end k c (omega (arith, is))) in
            subst (λ xs. IsFew (length xs) s) (sym (cuts_from-more k s inside)) (few-more s c (length (cuts_from sizes calls aim k c)) inside cut last (cuts_from-few k c cut.within))
      ]

  cuts_from-one : (k s : ℕ) → s < length sizes → cut_of sizes aim s calls ≡ length sizes → length (cuts_from sizes calls aim k s) ≤ 1
  cuts_from-one zero s h is = let none = ap length (cuts_from-zero s) in omega (arith, none)
  cuts_from-one (suc k) s h is =
      let one = ap length (cuts_from-more k s h) in
      let none = ap length (cuts_from-end k (cut_of sizes aim s calls) (omega (arith, is))) in
      omega (arith, one, none)

-- an aim of 0 is reached by all at once, and any other leaves no more than four times as many, and one, as are wanted
pub cuts_of-few : (sizes : List ℕ) (calls : List (ℕ × ℕ)) (wanted : ℕ) → 0 < length sizes → 0 < wanted → length (cuts_of sizes calls wanted) ≤ 4 * wanted + 1
unfolding cuts_of IsFew
cuts_of-few sizes calls wanted some positive =
    let n = length sizes in
    let aim = div_ceil (sum sizes) wanted in
    let times : sum sizes ≤ aim * wanted = (div_ceil_times (sum sizes) wanted positive).0 in
    elim (cases_lt 0 aim) [
      | inl above ↦
          let few = (cuts_from-few sizes calls aim n 0 (omega arith)).0 in
          let all = weight_of-le-sum sizes 0 n (omega arith) in
          let right : (4 * wanted + 1) * aim ≡ 4 * (aim * wanted) + aim = omega arith in
          let both : length (cuts_from sizes calls aim n 0) * aim ≤ (4 * wanted + 1) * aim = omega (arith, few, all, right, times) in
          le_of_mul-le-mul_right both above
      | inr zero_aim ↦
          let is : aim ≡ 0 = omega (arith, zero_aim) in
          let none : aim * wanted ≡ 0 = ap (λ a. a * wanted) is ∙ omega arith in
          let r = reach_of-IsReach sizes aim 0 some in
          let r_within = r.within in
          let end : reach_of sizes aim 0 ≡ n = elim (cases_lt (reach_of sizes aim 0) n) [
            | inl inside ↦
                let over = r.stops inside in
                let all = weight_of-le-sum sizes 0 (reach_of sizes aim 0 + 1) (omega arith) in
                absurd (omega (arith, over, all, times, none))
            | inr last ↦ omega (arith, last, r_within)
          ] in
          let one = cuts_from-one sizes calls aim n 0 some (cut_of-end sizes calls aim 0 end) in
          omega (arith, one)
    ]

pub cuts_of-JoinUp : (sizes : List ℕ) (calls : List (ℕ × ℕ)) (wanted : ℕ) → JoinUp 0 (length sizes) (cuts_of sizes calls wanted)
unfolding cuts_of
cuts_of-JoinUp sizes calls wanted = cuts_from-JoinUp sizes calls (div_ceil (sum sizes) wanted) (length sizes) 0 (omega arith) (omega arith)
