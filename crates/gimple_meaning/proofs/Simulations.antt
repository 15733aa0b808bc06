-- A machine whose states stay related to a program's follows it.
use Rattle.std.proofs.Common.{◌≡◌, ℕ, zero, suc, ◌+◌, ◌-◌, ◌≤◌, List, ◌++◌, inl, inr, refl, sym, ap, ◌∙◌, subst, arith, append_assoc}
use Rattle.std.proofs.lemmas.Bool.{cases_lt}
use Rattle.gimple_meaning.specs.Laws.{Grows}
use Rattle.gimple_meaning.specs.Systems.{System, Machine, State, Running, Ended, Undefined, step}
use Rattle.gimple_meaning.specs.Run.{run}
use Rattle.gimple_meaning.specs.Shown.{Shown, Goes, Ends, Fails, shown_of, Covers, RunFollows}
use Rattle.gimple_meaning.specs.Lower.{Lower, Extends, IsSteady, Comes, Leads, EndsWith, Works, Rests, Answers, Simulates}
use Rattle.gimple_meaning.proofs.RunLaws.{run-add, stays}

-- ---- what is covered

covers_goes : (a b : Shown) (output : List ℕ) → Extends a b → b ≡ Goes output → Covers a (Goes output)
covers_goes (Goes x) (Goes y) output e h = let same : y ≡ output = cc in subst (λ (l : List ℕ). Grows x l) same e
covers_goes (Goes x) (Ends status y) output e h = cc
covers_goes (Goes x) Fails output e h = cc
covers_goes (Ends code x) b output e h = cc
covers_goes Fails b output e h = cc

covers_ends : (a b : Shown) (status : ℕ) (output : List ℕ) → Extends a b → b ≡ Ends status output → Covers a (Ends status output)
covers_ends (Goes x) (Goes y) status output e h = cc
covers_ends (Goes x) (Ends code y) status output e h = let same : y ≡ output = cc in subst (λ (l : List ℕ). Grows x l) same e
covers_ends (Goes x) Fails status output e h = cc
covers_ends (Ends code x) b status output e h =
    let f : code ≡ status = cc in
    let g : x ≡ output = cc in
    (f, g)
covers_ends Fails b status output e h = cc

covers_over : (a : Shown) (status : ℕ) (output : List ℕ) → a ≡ Ends status output → Covers a (Ends status output)
covers_over (Goes x) status output h = cc
covers_over (Ends code x) status output h =
    let f : code ≡ status = cc in
    let g : x ≡ output = cc in
    (f, g)
covers_over Fails status output h = cc

ended_later : (a b : Shown) (status : ℕ) (output : List ℕ) → a ≡ Ends status output → Extends a b → b ≡ Ends status output
ended_later a b status output h e = let g : Extends (Ends status output) b = subst (λ x. Extends x b) h e in g

grows_on : (xs ys zs : List ℕ) → Grows xs ys → Grows ys zs → Grows xs zs
grows_on xs ys zs (a, p) (b, q) = (a ++ b, q ∙ ap (λ l. l ++ b) p ∙ append_assoc xs a b)

-- what is covered later is covered before
covers_before : (a b r : Shown) → Extends a b → Covers b r → Covers a r
covers_before a b Fails e c = tt
covers_before (Goes x) (Goes y) (Goes z) e c = grows_on x y z e c
covers_before (Goes x) (Goes y) (Ends status z) e c = grows_on x y z e c
covers_before (Goes x) (Ends code y) (Goes z) e c = absurd c
covers_before (Goes x) (Ends code y) (Ends status z) e c = subst (λ (l : List ℕ). Grows x l) c.1 e
covers_before (Goes x) Fails (Goes z) e c = absurd c
covers_before (Goes x) Fails (Ends status z) e c = absurd c
covers_before (Ends code x) b (Goes z) e c = subst (λ y. Covers y (Goes z)) e c
covers_before (Ends code x) b (Ends status z) e c = subst (λ y. Covers y (Ends status z)) e c
covers_before Fails b (Goes z) e c = subst (λ y. Covers y (Goes z)) e c
covers_before Fails b (Ends status z) e c = subst (λ y. Covers y (Ends status z)) e c

-- ---- ways

module _ (low : Lower) (steady : IsSteady low) where
  -- what is shown after n steps to t and k from there
  shown_on : (s t : low.Standing) (n k : ℕ) → low.after n s ≡ t → low.shows (low.after (n + k) s) ≡ low.shows (low.after k t)
  shown_on s t n k e = ap low.shows (steady.parts n k s ∙ ap (low.after k) e)

  comes_to_end : (s t : low.Standing) (n status : ℕ) (output : List ℕ) → low.after n s ≡ t → EndsWith low t status output → EndsWith low s status output
  comes_to_end s t n status output e b = record { steps = n + b.steps; ends = shown_on s t n b.steps e ∙ b.ends }

  later : (j k : ℕ) (s : low.Standing) → j ≤ k → Extends (low.shows (low.after j s)) (low.shows (low.after k s))
  later j k s h =
      let e : j + (k - j) ≡ k = omega arith in
      subst (λ n. Extends (low.shows (low.after j s)) (low.shows (low.after n s))) e (steady.later j (k - j) s)

  -- what the machine does before it comes to a state that follows a program
  pub follows_before : (s t : low.Standing) (runs : ℕ → Shown) → Comes low s t → RunFollows (λ k. low.shows (low.after k t)) runs → RunFollows (λ k. low.shows (low.after k s)) runs
  follows_before s t runs c f = record {
    goes_on = λ n output e. let b = f.goes_on n output e in (c.steps + b.0, shown_on s t c.steps b.0 c.there ∙ b.1);
    ends = λ n status output e. let b = f.ends n status output e in (c.steps + b.0, shown_on s t c.steps b.0 c.there ∙ b.1);
    no_more = λ j.
        let b = f.no_more j in (
          b.0,
          covers_before (low.shows (low.after j s)) (low.shows (low.after j t)) (runs b.0)
              (subst (λ x. Extends (low.shows (low.after j s)) x) (shown_on s t c.steps j c.there) (later j (c.steps + j) s (omega arith))) b.1,
        );
  }

-- ---- the simulation

-- how far a program has come once the machine has made j steps or more
data Progress (low : Lower) (system : System) (j : ℕ) (p : Machine) (s : low.Standing) : Type 0 where
  Far : (n k : ℕ) (o : Machine) → run system (Running p) n ≡ Running o → j ≤ k → low.shows (low.after k s) ≡ Goes o.output → Progress low system j p s
  Done : (n status : ℕ) (o : Machine) → run system (Running p) n ≡ Ended o status → EndsWith low s status o.output → Progress low system j p s
  Free : (n function place : ℕ) (o : Machine) → run system (Running p) n ≡ Undefined o function place → Progress low system j p s

running_same : (a b : Machine) → Running a ≡ Running b → a ≡ b
running_same a b h = cc

ended_same : (a b : Machine) (x y : ℕ) → Ended a x ≡ Ended b y → (a ≡ b) × (x ≡ y)
ended_same a b x y h = let e : a ≡ b = cc in let f : x ≡ y = cc in (e, f)

goes_of : (x : State) (output : List ℕ) → shown_of x ≡ Goes output → (o : Machine) × (x ≡ Running o) × (o.output ≡ output)
goes_of (Running m) output h = let e : m.output ≡ output = cc in (m, refl, e)
goes_of (Ended m status) output h = cc
goes_of (Undefined m function place) output h = cc

ends_of : (x : State) (status : ℕ) (output : List ℕ) → shown_of x ≡ Ends status output → (o : Machine) × (x ≡ Ended o status) × (o.output ≡ output)
ends_of (Ended m code) status output h =
    let e : m.output ≡ output = cc in
    let f : code ≡ status = cc in
    (m, ap (Ended m) f, e)
ends_of (Running m) status output h = cc
ends_of (Undefined m function place) status output h = cc

module _ (low : Lower) (steady : IsSteady low) (system : System) (R : ℕ → Machine → low.Standing → Type 0) (sim : Simulates low system R) where
  shown_at : (s : low.Standing) (output : List ℕ) → low.shows s ≡ Goes output → low.shows (low.after 0 s) ≡ Goes output
  shown_at s output e = ap low.shows (steady.here s) ∙ e

  -- the program moves on from p
  moves : (n : ℕ) (p : Machine) (x r : State) → step system (Running p) ≡ x → run system x n ≡ r → run system (Running p) (suc n) ≡ r
  moves n p x r e f =
      let g : suc n ≡ 1 + n = omega arith in
      ap (run system (Running p)) g ∙ run-add system (Running p) 1 n ∙ ap (λ y. run system y n) e ∙ f

  -- the same backwards
  moved : (n : ℕ) (p : Machine) (x r : State) → step system (Running p) ≡ x → run system (Running p) (suc n) ≡ r → run system x n ≡ r
  moved n p x r e f = sym (moves n p x (run system x n) e refl) ∙ f

  after_lead : (j : ℕ) (p q : Machine) (s t : low.Standing) → step system (Running p) ≡ Running q → Leads low s t → Progress low system j q t → Progress low system (suc j) p s
  after_lead j p q s t e l (Far n k o f h g) = Far (suc n) (suc l.steps + k) o (moves n p _ _ e f) (omega (arith, h)) (shown_on low steady s t (suc l.steps) k l.there ∙ g)
  after_lead j p q s t e l (Done n status o f g) = Done (suc n) status o (moves n p _ _ e f) (comes_to_end low steady s t (suc l.steps) status o.output l.there g)
  after_lead j p q s t e l (Free n function place o f) = Free (suc n) function place o (moves n p _ _ e f)

  after_rest : (j : ℕ) (p q : Machine) (s t : low.Standing) → step system (Running p) ≡ Running q → Comes low s t → Progress low system j q t → Progress low system j p s
  after_rest j p q s t e l (Far n k o f h g) = Far (suc n) (l.steps + k) o (moves n p _ _ e f) (omega (arith, h)) (shown_on low steady s t l.steps k l.there ∙ g)
  after_rest j p q s t e l (Done n status o f g) = Done (suc n) status o (moves n p _ _ e f) (comes_to_end low steady s t l.steps status o.output l.there g)
  after_rest j p q s t e l (Free n function place o f) = Free (suc n) function place o (moves n p _ _ e f)

  -- one more step of the machine, by a bound on the rank
  more : (j bound : ℕ) → ((rank : ℕ) (q : Machine) (t : low.Standing) → R rank q t → Progress low system j q t)
      → (rank : ℕ) (p : Machine) (s : low.Standing) → rank ≤ bound → (x : State) → step system (Running p) ≡ x → Answers low R rank x s → Progress low system (suc j) p s
  more j bound ih rank p s h (Ended q status) e a = Done 1 status q e a
  more j bound ih rank p s h (Undefined q function place) e a = Free 1 function place q e
  more j bound ih rank p s h (Running q) e (Works new t l r) = after_lead j p q s t e l (ih new q t r)
  more j zero ih rank p s h (Running q) e (Rests new t l r fall) = absurd (omega (arith, fall, h))
  more j (suc bound) ih rank p s h (Running q) e (Rests new t l r fall) =
      after_rest (suc j) p q s t e l (more j bound ih new q t (omega (arith, fall, h)) (step system (Running q)) refl (sim.keeps new q t r))

  progress : (j rank : ℕ) (p : Machine) (s : low.Standing) → R rank p s → Progress low system j p s
  progress zero rank p s r = Far 0 0 p refl (omega arith) (shown_at s p.output (sim.same rank p s r))
  progress (suc j) rank p s r = more j rank (progress j) rank p s (omega arith) (step system (Running p)) refl (sim.keeps rank p s r)

  -- the first part
  goes_on_step : (n : ℕ) → ((rank : ℕ) (q : Machine) (t : low.Standing) (o : Machine) → R rank q t → run system (Running q) n ≡ Running o → (j : ℕ) × (low.shows (low.after j t) ≡ Goes o.output))
      → (rank : ℕ) (s : low.Standing) (o : Machine) (x : State) → Answers low R rank x s → run system x n ≡ Running o → (j : ℕ) × (low.shows (low.after j s) ≡ Goes o.output)
  goes_on_step n ih rank s o (Running q) (Works new t l r) f = let b = ih new q t o r f in (suc l.steps + b.0, shown_on low steady s t (suc l.steps) b.0 l.there ∙ b.1)
  goes_on_step n ih rank s o (Running q) (Rests new t l r fall) f = let b = ih new q t o r f in (l.steps + b.0, shown_on low steady s t l.steps b.0 l.there ∙ b.1)
  goes_on_step n ih rank s o (Ended q status) a f = let g = stays system (Ended q status) tt n in cc
  goes_on_step n ih rank s o (Undefined q function place) a f = let g = stays system (Undefined q function place) tt n in cc

  goes_on_after : (n rank : ℕ) (p : Machine) (s : low.Standing) (o : Machine) → R rank p s → run system (Running p) n ≡ Running o → (j : ℕ) × (low.shows (low.after j s) ≡ Goes o.output)
  goes_on_after zero rank p s o r e = (0, shown_at s o.output (sim.same rank p s r ∙ ap (λ (x : Machine). Goes x.output) (running_same p o e)))
  goes_on_after (suc n) rank p s o r e =
      goes_on_step n (goes_on_after n) rank s o (step system (Running p)) (sim.keeps rank p s r) (moved n p _ _ refl e)

  -- the second part
  ends_step : (n : ℕ) → ((rank : ℕ) (q : Machine) (t : low.Standing) (o : Machine) (status : ℕ) → R rank q t → run system (Running q) n ≡ Ended o status → (j : ℕ) × (low.shows (low.after j t) ≡ Ends status o.output))
      → (rank : ℕ) (s : low.Standing) (o : Machine) (status : ℕ) (x : State) → Answers low R rank x s → run system x n ≡ Ended o status → (j : ℕ) × (low.shows (low.after j s) ≡ Ends status o.output)
  ends_step n ih rank s o status (Running q) (Works new t l r) f = let b = ih new q t o status r f in (suc l.steps + b.0, shown_on low steady s t (suc l.steps) b.0 l.there ∙ b.1)
  ends_step n ih rank s o status (Running q) (Rests new t l r fall) f = let b = ih new q t o status r f in (l.steps + b.0, shown_on low steady s t l.steps b.0 l.there ∙ b.1)
  ends_step n ih rank s o status (Ended q code) a f =
      let g = ended_same q o code status (sym (stays system (Ended q code) tt n) ∙ f) in
      (a.steps, a.ends ∙ ap (λ (x : ℕ). Ends x q.output) g.1 ∙ ap (λ (x : Machine). Ends status x.output) g.0)
  ends_step n ih rank s o status (Undefined q function place) a f = let g = stays system (Undefined q function place) tt n in cc

  ends_after : (n rank : ℕ) (p : Machine) (s : low.Standing) (o : Machine) (status : ℕ) → R rank p s → run system (Running p) n ≡ Ended o status → (j : ℕ) × (low.shows (low.after j s) ≡ Ends status o.output)
  ends_after zero rank p s o status r e = cc
  ends_after (suc n) rank p s o status r e =
      ends_step n (ends_after n) rank s o status (step system (Running p)) (sim.keeps rank p s r) (moved n p _ _ refl e)

  -- the third part
  covered : (j : ℕ) (p : Machine) (s : low.Standing) → Progress low system j p s → (n : ℕ) × Covers (low.shows (low.after j s)) (shown_of (run system (Running p) n))
  covered j p s (Far n k o f h g) = (
    n,
    subst (λ (x : State). Covers (low.shows (low.after j s)) (shown_of x)) (sym f) (covers_goes (low.shows (low.after j s)) (low.shows (low.after k s)) o.output (later low steady j k s h) g),
  )
  covered j p s (Done n status o f g) = (
    n,
    subst (λ (x : State). Covers (low.shows (low.after j s)) (shown_of x)) (sym f)
        (elim (cases_lt j g.steps) [
          | inl h ↦ covers_ends (low.shows (low.after j s)) (low.shows (low.after g.steps s)) status o.output (later low steady j g.steps s (omega arith)) g.ends
          | inr h ↦ covers_over (low.shows (low.after j s)) status o.output
              (ended_later (low.shows (low.after g.steps s)) (low.shows (low.after j s)) status o.output g.ends (later low steady g.steps j s h))
        ]),
  )
  covered j p s (Free n function place o f) = (n, subst (λ (x : State). Covers (low.shows (low.after j s)) (shown_of x)) (sym f) tt)

  -- from related states, the machine follows the program
  pub simulation_follows : (rank : ℕ) (p : Machine) (s : low.Standing) → R rank p s → RunFollows (λ j. low.shows (low.after j s)) (λ n. shown_of (run system (Running p) n))
  simulation_follows rank p s r = record {
    goes_on = λ n output e.
        let o = goes_of (run system (Running p) n) output e in
        let b = goes_on_after n rank p s o.0 r o.1 in
        (b.0, b.1 ∙ ap Goes o.2);
    ends = λ n status output e.
        let o = ends_of (run system (Running p) n) status output e in
        let b = ends_after n rank p s o.0 status r o.1 in
        (b.0, b.1 ∙ ap (λ (l : List ℕ). Ends status l) o.2);
    no_more = λ j. covered j p s (progress j rank p s r);
  }
