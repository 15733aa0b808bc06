-- What a worklist keeps.
use Rattle.std.proofs.Common.{◌≡◌, ◌≢◌, ℕ, zero, suc, ◌+◌, ◌*◌, ◌<◌, ◌≤◌, Bool, true, false, not, cond, List, [], ◌∷◌, length, get_or, set, replicate, refl, sym, ◌∙◌, ap, subst, arith, nat_eq, eq-eqb, Contains, inl, inr}
use Rattle.std.proofs.lemmas.Bool.{cases_eq, true≢false}
use Rattle.std.proofs.lemmas.Bool.Decides.{eqb_tells}
use Rattle.std.proofs.lemmas.List.{length-set, get_or-set_same, get_or-set_other, get_or-replicate, get_or_read}
use Rattle.std.proofs.lemmas.List.Elements.{All-set}
use Rattle.std.proofs.Math.Nat.{mul-le-mul_right}
use Rattle.std.specs.Cmp.{IsEquivalence}
use Rattle.equation_rounds.specs.Waiting.{Waiting, IsFull}
use Rattle.equation_rounds.specs.Systems.{Equations, IsSystem, IsAssignment, Counts, value_at, IsBelow, AllBelow, AreReaders, Chain, sum_below, most_ticks}
use Rattle.equation_rounds.specs.Rounds.{rounds_of}
use Rattle.equation_rounds.proofs.Sums.{sum_below-le, sum_below-one, sum_below-scaled}
use Rattle.equation_rounds.proofs.Order.{counts_at, below_trans, meet_left, meet_right, below_meet, top_is, rounds_is}
use Rattle.equation_rounds.proofs.Rounds.{rounds_below, rounds_are}

-- the values so far are not below the answer; what does not wait is below its equation; each value fell some
-- times, and the steps so far with those that wait are paid by the unknowns and the falls
pub record Progress {V : Type 0} (e : Equations V) (readers : ℕ → List ℕ) (start : ℕ) (v : List V) (list : Waiting) (ticks : ℕ) : Type 0 where
  pub assigned : IsAssignment e v
  pub room : list.room ≡ e.unknowns
  pub above : AllBelow e (rounds_of e) v
  pub settled : (u : ℕ) → u < e.unknowns → ¬ Contains list.items u → IsBelow e (value_at e v u) (e.apply u v)
  pub falls : ℕ → ℕ
  pub chained : (u : ℕ) → u < e.unknowns → Chain e (falls u) (value_at e v u)
  pub paid : ticks + length list.items ≤ start + e.unknowns + sum_below (λ u. falls u * length (readers u)) e.unknowns

contains_cons : (x : ℕ) (xs : List ℕ) (y : ℕ) → Contains (x ∷ xs) y → y ≢ x → Contains xs y
contains_cons x xs y (zero, lt, is) apart = absurd (apart (sym is))
contains_cons x xs y (suc k, lt, is) apart = (k, omega arith, is)

-- one more fall of an unknown
more_at : (ℕ → ℕ) → ℕ → ℕ → ℕ
more_at falls u w = cond (nat_eq w u) (suc (falls w)) (falls w)

more_here : (falls : ℕ → ℕ) (u : ℕ) → more_at falls u u ≡ suc (falls u)
unfolding more_at
more_here falls u = ap (λ b. cond b (suc (falls u)) (falls u)) (eq-eqb u u refl)

more_other : (falls : ℕ → ℕ) (u w : ℕ) → w ≢ u → more_at falls u w ≡ falls w
unfolding more_at
more_other falls u w apart =
    elim (eqb_tells w u) [
      | inl same ↦ absurd (apart same.1)
      | inr other ↦ ap (λ b. cond b (suc (falls w)) (falls w)) other.0
    ]

module _ {V : Type 0} (e : Equations V) {same : V → V → Bool} (s : IsSystem e same) (q : IsEquivalence same) {readers : ℕ → List ℕ} (r : AreReaders e readers) where
  pub begins : (start : ℕ) (list : Waiting) → IsFull list e.unknowns → Progress e readers start (replicate e.unknowns e.top) list start
  begins start list full = record {
    assigned = top_is e s;
    room = full.bound;
    above = λ u h. subst (IsBelow e (value_at e (rounds_of e) u)) (sym (get_or-replicate e.unknowns u e.top e.top h)) (s.below_top (value_at e (rounds_of e) u) (counts_at e s (rounds_of e) u (rounds_is e s) h));
    settled = λ u h no. absurd (no (full.all u h));
    falls = λ u. 0;
    chained = λ u h. counts_at e s (replicate e.unknowns e.top) u (top_is e s) h;
    paid = let short = full.short in omega (arith, short);
  }

  pub ends : (start : ℕ) (v : List V) (list : Waiting) (ticks : ℕ) → Progress e readers start v list ticks → list.items ≡ [] → v ≡ rounds_of e
  ends start v list ticks p empty =
      rounds_are e s q v p.assigned (λ u h. p.settled u h (λ c.
      let none : length list.items ≡ 0 = ap length empty in
      absurd (omega (arith, none, c.1)))) p.above

  pub within : (start : ℕ) (v : List V) (list : Waiting) (ticks : ℕ) → Progress e readers start v list ticks → ticks + length list.items ≤ start + most_ticks e readers
  within start v list ticks p =
      let weight : ℕ → ℕ = λ u. length (readers u) in
      let at_most = sum_below-le (λ u. p.falls u * weight u) (λ u. e.height * weight u) e.unknowns (λ u h. mul-le-mul_right (weight u) (s.finite_height (p.falls u) (value_at e v u) (p.chained u h))) in
      let scaled = sum_below-scaled e.height weight e.unknowns in
      let paid = p.paid in
      omega (arith, at_most, scaled, paid)

  -- an unknown leaves the list whose value stays
  pub stays : (start : ℕ) (v : List V) (before after : Waiting) (ticks u : ℕ) → Progress e readers start v before ticks → before.items ≡ u ∷ after.items → after.room ≡ before.room → IsBelow e (value_at e v u) (e.apply u v) → Progress e readers start v after (ticks + 1)
  stays start v before after ticks u p pops room below = record {
    assigned = p.assigned;
    room = room ∙ p.room;
    above = p.above;
    settled = λ w h no.
        elim (cases_eq w u) [
          | inl is ↦ subst (λ x. IsBelow e (value_at e v x) (e.apply x v)) (sym is) below
          | inr apart ↦ p.settled w h (λ c. no (contains_cons u after.items w (subst (λ items. Contains items w) pops c) apart))
        ];
    falls = p.falls;
    chained = p.chained;
    paid = let paid = p.paid in let len = ap length pops in omega (arith, paid, len);
  }

  -- an unknown leaves the list and falls, and its readers wait
  pub falls_to : (start : ℕ) (v : List V) (before after : Waiting) (rest : List ℕ) (ticks u : ℕ) → u < e.unknowns → Progress e readers start v before ticks → before.items ≡ u ∷ rest → after.room ≡ before.room → e.meet (value_at e v u) (e.apply u v) ≢ value_at e v u → ((w : ℕ) → Contains rest w → Contains after.items w) → ((w : ℕ) → Contains (readers u) w → Contains after.items w) → length after.items ≤ length rest + length (readers u) → Progress e readers start (set v u (e.meet (value_at e v u) (e.apply u v))) after (ticks + 1)
  falls_to start v before after rest ticks u u_in p pops room lower kept woken short =
      let old = value_at e v u in
      let found = e.apply u v in
      let new = e.meet old found in
      let v_new = set v u new in
      let c_old = counts_at e s v u p.assigned u_in in
      let c_found = s.apply_counts u v u_in p.assigned in
      let c_new = s.meet_counts old found c_old c_found in
      let here : value_at e v_new u ≡ new = get_or-set_same v u new e.top (subst (λ n. u < n) (sym p.assigned.of_all) u_in) in
      let there : (w : ℕ) → w ≢ u → value_at e v_new w ≡ value_at e v w = λ w apart. get_or-set_other v u w new e.top apart in
      let assigned : IsAssignment e v_new = record {
        of_all = length-set v u new ∙ p.assigned.of_all;
        counting = All-set (Counts e) v u new c_new p.assigned.counting;
      } in
      let answer = rounds_of e in
      let answer_is = rounds_is e s in
      let c_answer = counts_at e s answer u answer_is u_in in
      let c_answer_found = s.apply_counts u answer u_in answer_is in
      let answer_found : IsBelow e (value_at e answer u) found = below_trans e s (value_at e answer u) (e.apply u answer) found c_answer c_answer_found c_found (rounds_below e s q u u_in) (s.monotone u answer v u_in answer_is p.assigned p.above) in
      let answer_new : IsBelow e (value_at e answer u) new = below_meet e s (value_at e answer u) old found c_answer c_old c_found (p.above u u_in) answer_found in
      record {
        assigned = assigned;
        room = room ∙ p.room;
        above = λ w h.
            elim (cases_eq w u) [
              | inl is ↦ subst (λ x. IsBelow e (value_at e answer x) (value_at e v_new x)) (sym is) (subst (IsBelow e (value_at e answer u)) (sym here) answer_new)
              | inr apart ↦ subst (IsBelow e (value_at e answer w)) (sym (there w apart)) (p.above w h)
            ];
        settled = λ w h no.
            let unread : e.apply w v_new ≡ e.apply w v = r.unread u w v new u_in h p.assigned c_new (λ c. no (woken w c)) in
            elim (cases_eq w u) [
              | inl is ↦
                  let seen : IsBelow e (value_at e v_new u) (e.apply u v) = subst (λ x. IsBelow e x found) (sym here) (meet_right e s old found c_old c_found) in
                  let at : IsBelow e (value_at e v_new w) (e.apply w v) = subst (λ x. IsBelow e (value_at e v_new x) (e.apply x v)) (sym is) seen in
                  subst (IsBelow e (value_at e v_new w)) (sym unread) at
              | inr apart ↦
                  let was = p.settled w h (λ c. no (kept w (contains_cons u rest w (subst (λ items. Contains items w) pops c) apart))) in
                  let now : IsBelow e (value_at e v_new w) (e.apply w v) = subst (λ x. IsBelow e x (e.apply w v)) (sym (there w apart)) was in
                  subst (IsBelow e (value_at e v_new w)) (sym unread) now
            ];
        falls = more_at p.falls u;
        chained = λ w h.
            elim (cases_eq w u) [
              | inl is ↦
                  let chain : Chain e (suc (p.falls u)) new = (old, c_new, meet_left e s old found c_old c_found, lower, p.chained u u_in) in
                  let longer : Chain e (more_at p.falls u u) (value_at e v_new u) = subst (λ n. Chain e n (value_at e v_new u)) (sym (more_here p.falls u)) (subst (Chain e (suc (p.falls u))) (sym here) chain) in
                  subst (λ x. Chain e (more_at p.falls u x) (value_at e v_new x)) (sym is) longer
              | inr apart ↦ subst (λ n. Chain e n (value_at e v_new w)) (sym (more_other p.falls u w apart)) (subst (Chain e (p.falls w)) (sym (there w apart)) (p.chained w h))
            ];
        paid =
            let weight : ℕ → ℕ = λ w. length (readers w) in
            let one = sum_below-one (λ w. p.falls w * weight w) (λ w. more_at p.falls u w * weight w) (weight u) u e.unknowns u_in (λ w apart. ap (λ n. n * weight w) (more_other p.falls u w apart)) (ap (λ n. n * weight u) (more_here p.falls u) ∙ omega arith) in
            let paid = p.paid in
            let len = ap length pops in
            omega (arith, one, paid, len, short);
      }

  told_true : (b n : Bool) → n ≡ not b → n ≡ false → b ≡ true
  told_true true n is fails = refl
  told_true false n is fails = sym fails ∙ is

  told_false : (b n : Bool) → n ≡ not b → n ≡ true → b ≡ false
  told_false false n is holds = refl
  told_false true n is holds = sym holds ∙ is

  -- the two ways of a turn, as the code has them: what was read, what the equation gives, their meet, and whether it differs
  pub turn_stays : (start : ℕ) (v seen : List V) (before after : Waiting) (ticks u : ℕ) (old found lower : V) (differs : Bool) → u < before.room → Progress e readers start v before ticks → before.items ≡ u ∷ after.items → after.room ≡ before.room → old ≡ get_or v u old → seen ≡ v → found ≡ e.apply u seen → lower ≡ e.meet old found → differs ≡ not (same lower old) → differs ≡ false → Progress e readers start v after (ticks + 1)
  turn_stays start v seen before after ticks u old found lower differs lt p pops room read see finds meets tells fails =
      let u_in : u < e.unknowns = subst (λ n. u < n) p.room lt in
      let is : old ≡ value_at e v u = get_or_read v u old (subst (λ n. u < n) (sym p.assigned.of_all) u_in) read e.top in
      let gives : found ≡ e.apply u v = finds ∙ ap (e.apply u) see in
      let c_old = counts_at e s v u p.assigned u_in in
      let c_found = s.apply_counts u v u_in p.assigned in
      let met : lower ≡ e.meet (value_at e v u) (e.apply u v) = meets ∙ ap (λ x. e.meet x found) is ∙ ap (e.meet (value_at e v u)) gives in
      let c_lower = subst (Counts e) (sym met) (s.meet_counts (value_at e v u) (e.apply u v) c_old c_found) in
      let level : lower ≡ old = s.same_value lower old c_lower (subst (Counts e) (sym is) c_old) (told_true (same lower old) differs tells fails) in
      stays start v before after ticks u p pops room (sym met ∙ level ∙ is)

  pub turn_falls : (start : ℕ) (v seen : List V) (before after : Waiting) (rest : List ℕ) (ticks u : ℕ) (old found lower : V) (differs : Bool) → u < before.room → Progress e readers start v before ticks → before.items ≡ u ∷ rest → after.room ≡ before.room → old ≡ get_or v u old → seen ≡ v → found ≡ e.apply u seen → lower ≡ e.meet old found → differs ≡ not (same lower old) → differs ≡ true → ((w : ℕ) → Contains rest w → Contains after.items w) → ((w : ℕ) → Contains (readers u) w → Contains after.items w) → length after.items ≤ length rest + length (readers u) → Progress e readers start (set v u lower) after (ticks + 1)
  turn_falls start v seen before after rest ticks u old found lower differs lt p pops room read see finds meets tells holds kept woken short =
      let u_in : u < e.unknowns = subst (λ n. u < n) p.room lt in
      let is : old ≡ value_at e v u = get_or_read v u old (subst (λ n. u < n) (sym p.assigned.of_all) u_in) read e.top in
      let gives : found ≡ e.apply u v = finds ∙ ap (e.apply u) see in
      let met : lower ≡ e.meet (value_at e v u) (e.apply u v) = meets ∙ ap (λ x. e.meet x found) is ∙ ap (e.meet (value_at e v u)) gives in
      let apart : e.meet (value_at e v u) (e.apply u v) ≢ value_at e v u = λ level. true≢false (sym (q.refl lower) ∙ ap (same lower) (met ∙ level ∙ sym is) ∙ told_false (same lower old) differs tells holds) in
      subst (λ x. Progress e readers start (set v u x) after (ticks + 1)) (sym met) (falls_to start v before after rest ticks u u_in p pops room apart kept woken short)
