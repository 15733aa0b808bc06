-- The rounds come to rest, and what is above them and below its equations is their value.
use Rattle.std.proofs.Common.{◌≡◌, ◌≢◌, ℕ, zero, suc, ◌+◌, ◌*◌, ◌<◌, ◌≤◌, Bool, true, false, cond, List, refl, sym, ◌∙◌, ap, subst, arith, inl, inr, ◌⊎◌}
use Rattle.std.proofs.lemmas.Bool.{cases_lt, true≢false}
use Rattle.std.proofs.lemmas.List.{ext_get_or}
use Rattle.std.specs.Cmp.{IsEquivalence}
use Rattle.equation_rounds.specs.Systems.{Equations, IsSystem, IsAssignment, Counts, value_at, IsBelow, AllBelow, IsBelowEquations, Chain, sum_below}
use Rattle.equation_rounds.specs.Rounds.{one_round, after_rounds, rounds_of}
use Rattle.equation_rounds.proofs.Sums.{sum_below-level, sum_below-times}
use Rattle.equation_rounds.proofs.Order.{counts_at, round_at, meet_left, after_is, rounds_is, below_rounds, all_below_antisym}

module _ {V : Type 0} (e : Equations V) {same : V → V → Bool} (s : IsSystem e same) (q : IsEquivalence same) where
  different : (a b : V) → same a b ≡ false → a ≢ b
  different a b f is = true≢false (sym (q.refl a) ∙ ap (same a) is ∙ f)

  -- in how many of the first rounds the value of an unknown fell
  falls : ℕ → ℕ → ℕ
  falls zero u = 0
  falls (suc n) u = cond (same (value_at e (after_rounds e n) u) (value_at e (after_rounds e (suc n)) u)) (falls n u) (suc (falls n u))

  fallen : (n : ℕ) (a b : V) → Counts e a → Counts e b → IsBelow e b a → Chain e n a → (t : Bool) → same a b ≡ t → Chain e (cond t n (suc n)) b
  fallen n a b ca cb p c true is = subst (Chain e n) (s.same_value a b ca cb is) c
  fallen n a b ca cb p c false is = (a, cb, p, (λ back. different a b is (sym back)), c)

  lower : (n u : ℕ) → u < e.unknowns → IsBelow e (value_at e (after_rounds e (suc n)) u) (value_at e (after_rounds e n) u)
  unfolding after_rounds
  lower n u h =
      let v = after_rounds e n in
      let i = after_is e s n in
      subst (λ x. IsBelow e x (value_at e v u)) (sym (round_at e s v u i h)) (meet_left e s (value_at e v u) (e.apply u v) (counts_at e s v u i h) (s.apply_counts u v h i))

  chained : (n u : ℕ) → u < e.unknowns → Chain e (falls n u) (value_at e (after_rounds e n) u)
  unfolding falls
  chained zero u h = counts_at e s (after_rounds e 0) u (after_is e s 0) h
  chained (suc n) u h =
      let a = value_at e (after_rounds e n) u in
      let b = value_at e (after_rounds e (suc n)) u in
      fallen (falls n u) a b (counts_at e s (after_rounds e n) u (after_is e s n) h) (counts_at e s (after_rounds e (suc n)) u (after_is e s (suc n)) h) (lower n u h) (chained n u h) (same a b) refl

  rising : (n u : ℕ) → falls n u ≤ falls (suc n) u
  unfolding falls
  rising n u =
      let go : (t : Bool) (m : ℕ) → m ≤ cond t m (suc m) = elim [ true ↦ λ m. omega arith | false ↦ λ m. omega arith ] in
      go (same (value_at e (after_rounds e n) u) (value_at e (after_rounds e (suc n)) u)) (falls n u)

  level_tells : (t : Bool) (m : ℕ) → m ≡ cond t m (suc m) → t ≡ true
  level_tells true m is = refl
  level_tells false m is = absurd (omega arith)

  level_same : (n u : ℕ) → u < e.unknowns → falls n u ≡ falls (suc n) u → value_at e (after_rounds e n) u ≡ value_at e (after_rounds e (suc n)) u
  unfolding falls
  level_same n u h level =
      let a = value_at e (after_rounds e n) u in
      let b = value_at e (after_rounds e (suc n)) u in
      s.same_value a b (counts_at e s (after_rounds e n) u (after_is e s n) h) (counts_at e s (after_rounds e (suc n)) u (after_is e s (suc n)) h) (level_tells (same a b) (falls n u) level)

  -- a round changes nothing
  AtRest : ℕ → Type 0
  AtRest n = after_rounds e (suc n) ≡ after_rounds e n

  stays : (n : ℕ) → after_rounds e (suc n) ≡ after_rounds e n → after_rounds e (suc (suc n)) ≡ after_rounds e (suc n)
  unfolding after_rounds
  stays n rest = ap (one_round e) rest

  rest_or_fall : (n : ℕ) → (after_rounds e (suc n) ≡ after_rounds e n) ⊎ (n ≤ sum_below (falls n) e.unknowns)
  rest_or_fall zero = inr (omega arith)
  rest_or_fall (suc n) =
      elim (rest_or_fall n) [
        | inl rest ↦ inl (stays n rest)
        | inr fell ↦
            elim (cases_lt (sum_below (falls n) e.unknowns) (sum_below (falls (suc n)) e.unknowns)) [
              | inl more ↦ inr (omega arith)
              | inr level ↦
                  let alike = sum_below-level (falls n) (falls (suc n)) e.unknowns (λ u _. rising n u) level in
                  let i = after_is e s n in
                  let j = after_is e s (suc n) in
                  inl (stays n (ext_get_or e.top (after_rounds e (suc n)) (after_rounds e n) (j.of_all ∙ sym i.of_all) (λ u h.
                  let inside : u < e.unknowns = subst (λ m. u < m) j.of_all h in
                  sym (level_same n u inside (alike u inside)))))
            ]
      ]

  at_rest : after_rounds e (suc (e.unknowns * e.height + 1)) ≡ after_rounds e (e.unknowns * e.height + 1)
  at_rest =
      let n = e.unknowns * e.height + 1 in
      elim (rest_or_fall n) [
        | inl rest ↦ rest
        | inr fell ↦
            let most = sum_below-times (falls n) e.height e.unknowns (λ u h. s.finite_height (falls n u) (value_at e (after_rounds e n) u) (chained n u h)) in
            absurd (omega (arith, most, fell))
      ]

  -- the value of the rounds is below its equations
  pub rounds_below : IsBelowEquations e (rounds_of e)
  unfolding rounds_of after_rounds
  rounds_below u h =
      let v = after_rounds e (e.unknowns * e.height + 1) in
      let i = after_is e s (e.unknowns * e.height + 1) in
      sym (round_at e s v u i h) ∙ ap (λ w. value_at e w u) at_rest

  pub rounds_are : (v : List V) → IsAssignment e v → IsBelowEquations e v → AllBelow e (rounds_of e) v → v ≡ rounds_of e
  rounds_are v i p above = all_below_antisym e s v (rounds_of e) i (rounds_is e s) (below_rounds e s v i p) above
