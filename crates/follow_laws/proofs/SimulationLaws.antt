-- The machine as one on which a program is followed, and that it follows a program that it meets step after step.
use Rattle.std.proofs.Common.{◌≡◌, ℕ, suc, ◌+◌, List, refl, sym, ap, ◌∙◌, subst}
use Rattle.gimple_meaning.specs.Systems.{System, Machine, State, Undefined, step}
use Rattle.gimple_meaning.specs.Systems as program
use Rattle.gimple_meaning.specs.Run.{run}
use Rattle.gimple_meaning.specs.Shown.{Goes}
use Rattle.gimple_meaning.specs.Lower.{Lower, Extends, IsSteady, Moves, Works, Rests, Answers}
use Rattle.gimple_meaning.specs.Lower as lower
use Rattle.gimple_meaning.proofs.Simulations.{simulation_follows}
use Rattle.rv64_meaning.specs.Machine.{Segments, Standing, At, EndedWith, TrappedAt, Outcome, Running, Ended, Trapped, after, outcome_of, exec}
use Rattle.rv64_meaning.specs.Machine as hart
use Rattle.rv64_meaning.specs.Laws.{IsOver, Grows, output_of}
use Rattle.rv64_meaning.proofs.RunLaws.{after-add, stays, exec_over, exec_grows}
use Rattle.follow_laws.specs.Follows.{shown_by}
use Rattle.follow_laws.specs.Relation.{Comes, Leads, EndsWith, Advances}
use Rattle.follow_laws.specs.Relation as relation
use Rattle.follow_laws.specs.Laws.{Meets, SimulationFollows}

abbrev pub machine : Segments → Lower
machine m = record { Standing = Standing; after = after m; shows = λ p. shown_by (outcome_of p) }

-- ---- it is one

shown_later : (a b : Outcome) → (IsOver a → b ≡ a) → Grows (output_of a) (output_of b) → Extends (shown_by a) (shown_by b)
shown_later (Running x) (Running y) over grows = grows
shown_later (Running x) (Ended code y) over grows = grows
shown_later (Running x) (Trapped address y) over grows = tt
shown_later (Ended code x) b over grows = ap shown_by (over tt)
shown_later (Trapped address x) b over grows = ap shown_by (over tt)

later : (m : Segments) (n k : ℕ) (p : Standing) → Extends (shown_by (outcome_of (after m n p))) (shown_by (outcome_of (after m (n + k) p)))
later m n k (At s) = shown_later (exec m n s) (exec m (n + k) s) (exec_over m n k s) (exec_grows m n k s)
later m n k (EndedWith status output) =
    subst (λ (x : Standing). Extends (shown_by (outcome_of x)) (shown_by (outcome_of (after m (n + k) (EndedWith status output))))) (sym (stays m n (EndedWith status output) tt))
    (ap (λ (x : Standing). shown_by (outcome_of x)) (stays m (n + k) (EndedWith status output) tt))
later m n k (TrappedAt address output) =
    subst (λ (x : Standing). Extends (shown_by (outcome_of x)) (shown_by (outcome_of (after m (n + k) (TrappedAt address output))))) (sym (stays m n (TrappedAt address output) tt))
    (ap (λ (x : Standing). shown_by (outcome_of x)) (stays m (n + k) (TrappedAt address output) tt))

pub steady : (m : Segments) → IsSteady (machine m)
steady m = record { here = λ p. refl; parts = after-add m; later = later m }

-- ---- its ways

pub comes_there : (m : Segments) (s t : hart.State) → Comes m s t → lower.Comes (machine m) (At s) (At t)
comes_there m s t c = record { steps = c.steps; there = c.there }

pub leads_there : (m : Segments) (s t : hart.State) → Leads m s t → lower.Leads (machine m) (At s) (At t)
leads_there m s t l = record { steps = l.steps; there = l.there }

pub ends_there : (m : Segments) (s : hart.State) (status : ℕ) (output : List ℕ) → EndsWith m s status output → lower.EndsWith (machine m) (At s) status output
ends_there m s status output e = record { steps = e.steps; ends = ap (λ (p : Standing). shown_by (outcome_of p)) e.ends }

-- ---- a relation from the states where the machine meets each step of a program

record Met (runs : ℕ → State) (states : ℕ → hart.State) (ranks : ℕ → ℕ) (rank : ℕ) (q : Machine) (t : Standing) : Type 0 where
  step_number : ℕ
  runs_there : runs step_number ≡ program.Running q
  meets_there : t ≡ At (states step_number)
  rank_there : rank ≡ ranks step_number

module _ (m : Segments) (system : System) (first : State) (states : ℕ → hart.State) (ranks : ℕ → ℕ) (meets : Meets m (run system first) states ranks) where
  met_same : (rank : ℕ) (q : Machine) (t : Standing) → Met (run system first) states ranks rank q t → shown_by (outcome_of t) ≡ Goes q.output
  met_same rank q t r = ap (λ (x : Standing). shown_by (outcome_of x)) r.meets_there ∙ ap (λ (o : List ℕ). Goes o) (meets.same r.step_number q r.runs_there)

  met_on : (n : ℕ) (q : Machine) → run system first (suc n) ≡ program.Running q → Advances m (states n) (states (suc n)) (ranks n) (ranks (suc n))
      → Moves (machine m) (Met (run system first) states ranks) (ranks n) q (At (states n))
  met_on n q e (relation.Works l) =
      Works (ranks (suc n)) (At (states (suc n))) (leads_there m (states n) (states (suc n)) l) (record { step_number = suc n; runs_there = e; meets_there = refl; rank_there = refl })
  met_on n q e (relation.Rests l fall) =
      Rests (ranks (suc n)) (At (states (suc n))) (comes_there m (states n) (states (suc n)) l) (record { step_number = suc n; runs_there = e; meets_there = refl; rank_there = refl }) fall

  met_next : (n : ℕ) (q : Machine) → run system first n ≡ program.Running q → (x : State) → run system first (suc n) ≡ x
      → Answers (machine m) (Met (run system first) states ranks) (ranks n) x (At (states n))
  met_next n q e (program.Running r) f = met_on n r f (meets.on n q r e f)
  met_next n q e (program.Ended r status) f = ends_there m (states n) status r.output (meets.ends n q r status e f)
  met_next n q e (program.Undefined r function place) f = tt

  met_keeps : (rank : ℕ) (q : Machine) (t : Standing) → Met (run system first) states ranks rank q t
      → Answers (machine m) (Met (run system first) states ranks) rank (step system (program.Running q)) t
  met_keeps rank q t r =
      let e = sym r.meets_there in
      let f = sym r.rank_there in
      subst (λ (x : ℕ). Answers (machine m) (Met (run system first) states ranks) x (step system (program.Running q)) t) f
      (subst (λ (x : Standing). Answers (machine m) (Met (run system first) states ranks) (ranks r.step_number) (step system (program.Running q)) x) e
      (met_next r.step_number q r.runs_there (step system (program.Running q)) (ap (step system) r.runs_there)))

pub simulation_from_meetings : SimulationFollows
simulation_from_meetings m system p states ranks meets =
    let first = program.Running p in
    simulation_follows (machine m) (steady m) system (Met (run system first) states ranks)
    (record { same = met_same m system first states ranks meets; keeps = met_keeps m system first states ranks meets })
    (ranks 0) p (At (states 0)) (record { step_number = 0; runs_there = refl; meets_there = refl; rank_there = refl })
