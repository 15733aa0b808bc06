-- The order of a system's values, and its rounds at each place.
use Rattle.std.proofs.Common.{◌≡◌, ℕ, zero, suc, ◌+◌, ◌*◌, ◌<◌, Bool, List, [], ◌∷◌, length, replicate, refl, sym, ◌∙◌, ap, subst, arith, zero-add}
use Rattle.std.proofs.lemmas.List.{get_or-replicate, length-replicate, ext_get_or}
use Rattle.std.proofs.lemmas.List.Elements.{All-get_or, All-from_get_or, All-replicate}
use Rattle.equation_rounds.specs.Systems.{Equations, IsSystem, IsAssignment, Counts, value_at, IsBelow, AllBelow, IsBelowEquations}
use Rattle.equation_rounds.specs.Rounds.{round_from, one_round, after_rounds, rounds_of}

module _ {V : Type 0} (e : Equations V) {same : V → V → Bool} (s : IsSystem e same) where
  pub below_trans : (a b c : V) → Counts e a → Counts e b → Counts e c → IsBelow e a b → IsBelow e b c → IsBelow e a c
  below_trans a b c ca cb cc' p q = ap (λ x. e.meet x c) (sym p) ∙ s.associates a b c ca cb cc' ∙ ap (e.meet a) q ∙ p

  pub below_antisym : (a b : V) → Counts e a → Counts e b → IsBelow e a b → IsBelow e b a → a ≡ b
  below_antisym a b ca cb p q = sym p ∙ s.commutes a b ca cb ∙ q

  pub meet_left : (a b : V) → Counts e a → Counts e b → IsBelow e (e.meet a b) a
  meet_left a b ca cb =
      s.commutes (e.meet a b) a (s.meet_counts a b ca cb) ca ∙ sym (s.associates a a b ca ca cb) ∙ ap (λ x. e.meet x b) (s.idempotent a ca)

  pub meet_right : (a b : V) → Counts e a → Counts e b → IsBelow e (e.meet a b) b
  meet_right a b ca cb = s.associates a b b ca cb cb ∙ ap (e.meet a) (s.idempotent b cb)

  pub below_meet : (c a b : V) → Counts e c → Counts e a → Counts e b → IsBelow e c a → IsBelow e c b → IsBelow e c (e.meet a b)
  below_meet c a b c' ca cb p q = sym (s.associates c a b c' ca cb) ∙ ap (λ x. e.meet x b) p ∙ q

  -- an assignment at a place
  pub counts_at : (v : List V) (u : ℕ) → IsAssignment e v → u < e.unknowns → Counts e (value_at e v u)
  counts_at v u i h = All-get_or (Counts e) v u e.top (subst (λ n. u < n) (sym i.of_all) h) i.counting

  pub all_below_trans : (v w x : List V) → IsAssignment e v → IsAssignment e w → IsAssignment e x → AllBelow e v w → AllBelow e w x → AllBelow e v x
  all_below_trans v w x iv iw ix p q u h =
      below_trans (value_at e v u) (value_at e w u) (value_at e x u) (counts_at v u iv h) (counts_at w u iw h) (counts_at x u ix h) (p u h) (q u h)

  pub all_below_antisym : (v w : List V) → IsAssignment e v → IsAssignment e w → AllBelow e v w → AllBelow e w v → v ≡ w
  all_below_antisym v w iv iw p q =
      ext_get_or e.top v w (iv.of_all ∙ sym iw.of_all) (λ u h.
      let inside : u < e.unknowns = subst (λ n. u < n) iv.of_all h in
      below_antisym (value_at e v u) (value_at e w u) (counts_at v u iv inside) (counts_at w u iw inside) (p u inside) (q u inside))

  -- a round at a place
  length-round_from : (now : List V) (u : ℕ) (v : List V) → length (round_from e now u v) ≡ length v
  unfolding round_from
  length-round_from now u [] = refl
  length-round_from now u (a ∷ rest) = ap suc (length-round_from now (suc u) rest)

  round_from-at : (now : List V) (u : ℕ) (v : List V) (k : ℕ) → k < length v → value_at e (round_from e now u v) k ≡ e.meet (value_at e v k) (e.apply (u + k) now)
  unfolding round_from
  round_from-at now u [] k h = absurd (omega arith)
  round_from-at now u (a ∷ rest) zero h = let here : u ≡ u + 0 = omega arith in ap (λ n. e.meet a (e.apply n now)) here
  round_from-at now u (a ∷ rest) (suc k) h =
      let further : suc u + k ≡ u + suc k = omega arith in
      round_from-at now (suc u) rest k (omega arith) ∙ ap (λ n. e.meet (value_at e rest k) (e.apply n now)) further

  pub round_at : (v : List V) (u : ℕ) → IsAssignment e v → u < e.unknowns → value_at e (one_round e v) u ≡ e.meet (value_at e v u) (e.apply u v)
  unfolding one_round
  round_at v u i h =
      round_from-at v 0 v u (subst (λ n. u < n) (sym i.of_all) h) ∙ ap (λ n. e.meet (value_at e v u) (e.apply n v)) (zero-add u)

  length-one_round : (v : List V) → length (one_round e v) ≡ length v
  unfolding one_round
  length-one_round v = length-round_from v 0 v

  pub round_is : (v : List V) → IsAssignment e v → IsAssignment e (one_round e v)
  round_is v i =
      let len : length (one_round e v) ≡ e.unknowns = length-one_round v ∙ i.of_all in
      record {
        of_all = len;
        counting = All-from_get_or (Counts e) (one_round e v) e.top (λ u h.
            let inside : u < e.unknowns = subst (λ n. u < n) len h in
            subst (Counts e) (sym (round_at v u i inside)) (s.meet_counts (value_at e v u) (e.apply u v) (counts_at v u i inside) (s.apply_counts u v inside i)));
      }

  pub top_is : IsAssignment e (replicate e.unknowns e.top)
  top_is = record { of_all = length-replicate e.unknowns e.top; counting = All-replicate (Counts e) e.unknowns e.top s.top_counts }

  pub after_is : (n : ℕ) → IsAssignment e (after_rounds e n)
  unfolding after_rounds
  after_is zero = top_is
  after_is (suc n) = round_is (after_rounds e n) (after_is n)

  pub rounds_is : IsAssignment e (rounds_of e)
  unfolding rounds_of
  rounds_is = after_is (e.unknowns * e.height + 1)

  -- what is below its equations is below the value of each number of rounds
  pub below_after : (v : List V) → IsAssignment e v → IsBelowEquations e v → (n : ℕ) → AllBelow e v (after_rounds e n)
  unfolding after_rounds
  below_after v i p zero u h =
      subst (IsBelow e (value_at e v u)) (sym (get_or-replicate e.unknowns u e.top e.top h)) (s.below_top (value_at e v u) (counts_at v u i h))
  below_after v i p (suc n) u h =
      let w = after_rounds e n in
      let j = after_is n in
      let before = below_after v i p n in
      let v_u = value_at e v u in
      let w_u = value_at e w u in
      let cv = counts_at v u i h in
      let cw = counts_at w u j h in
      let av = s.apply_counts u v h i in
      let aw = s.apply_counts u w h j in
      let by_equation = below_trans v_u (e.apply u v) (e.apply u w) cv av aw (p u h) (s.monotone u v w h i j before) in
      subst (IsBelow e v_u) (sym (round_at w u j h)) (below_meet v_u w_u (e.apply u w) cv cw aw (before u h) by_equation)

  pub below_rounds : (v : List V) → IsAssignment e v → IsBelowEquations e v → AllBelow e v (rounds_of e)
  unfolding rounds_of
  below_rounds v i p = below_after v i p (e.unknowns * e.height + 1)
