-- The rows joined: from its start the machine follows the program.
use Rattle.std.proofs.Common.{◌≡◌, ℕ, ◌+◌, List, [], ◌∷◌, Option, Some, None, refl, sym, ap, ◌∙◌, subst, arith}
use Rattle.std.specs.Prelude.{slice_get, unwrap_or}
use Rattle.std.specs.Option.{option_map, option_and_then}
use Rattle.std.proofs.lemmas.Option.{slice_get-map, none-some}
use Rattle.gimple_ir.specs.declared.types.Value.{Value}
use Rattle.gimple_ir.specs.declared.lattice.Binding.{Binding}
use Rattle.gimple_ir.specs.declared.versioned.Step.{Step}
use Rattle.gimple_ir.specs.declared.versioned.VersionedFunction.{VersionedFunction}
use Rattle.gimple_meaning.specs.Acts.{Act, Fault}
use Rattle.gimple_meaning.specs.Systems.{Frame, Machine, fresh, first_arrays, start_in, next, applied, store_of, step}
use Rattle.gimple_meaning.specs.Systems as program
use Rattle.gimple_meaning.specs.Run.{run}
use Rattle.gimple_meaning.specs.Steps.{Code, act_in, act_at, opened, opened_by}
use Rattle.rv64_meaning.specs.Machine.{Segments, State, Standing, At, outcome_of, exec}
use Rattle.gimple_meaning.specs.Shown.{Goes, shown_of, RunFollows}
use Rattle.gimple_meaning.specs.Lower.{Moves, Works, Rests, Simulates}
use Rattle.gimple_meaning.specs.Lower as lower
use Rattle.gimple_meaning.proofs.Simulations.{follows_before, simulation_follows}
use Rattle.follow_laws.specs.Follows.{shown_by}
use Rattle.follow_laws.specs.Relation.{ComesTo, Advances}
use Rattle.follow_laws.specs.Relation as relation
use Rattle.follow_laws.proofs.WayLaws.{reach_on, comes_of}
use Rattle.follow_laws.proofs.StubLaws.{start_calls}
use Rattle.follow_laws.proofs.SimulationLaws.{machine, steady, comes_there, leads_there, ends_there}
use Rattle.gimple_meaning.specs.Linked.{LinkedProgram, linked_step, linked_code, linked_system, step_in, step_now, steps_left_in, steps_left}
use Rattle.gimple_meaning.specs.Typed.{ProgramTyped}
use Rattle.follow_laws.specs.Layouts.{Layout, IsPlaced, top, first_return}
use Rattle.follow_laws.specs.Related.{FramesWait, ArraysHeld, AtFrame, RelatedIn, Related, Answers}
use Rattle.follow_laws.specs.Rows.{Row}
use Rattle.gimple_meaning.specs.Linked.{linked_run}
use Rattle.follow_laws.specs.Starts.{AtStart}
use Rattle.follow_laws.proofs.CallRows.{BindingFits, Ready, entry_run}

-- a row for every form of a step
abbrev pub AllRows : Type 0
AllRows = (form : Step) → Row form

-- ---- a step of the program

-- where no step stands, the program is undefined
none_in : (m : Segments) (l : Layout) (p : LinkedProgram) (q : Machine) (s : State) (frames : List Frame) → RelatedIn l p q frames s → step_in p frames ≡ None
    → Answers m l p s (steps_left_in p frames) (next (linked_system p) q frames)
none_in m l p q s [] related now = absurd related
none_in m l p q s (frame ∷ older) a now =
    let f = a.function in
    let known = a.holds.newest.known in
    let none = sym (ap (option_and_then (λ (x : VersionedFunction). slice_get x.body frame.place)) known) ∙ now in
    let code = slice_get-map (linked_code p) p.functions frame.function ∙ ap (option_map (linked_code p)) known in
    let body = slice_get-map (linked_step p f) f.body frame.place ∙ ap (option_map (linked_step p f)) none in
    let acts : (linked_system p).acts frame.function frame.place (store_of q frame) ≡ Fault =
    ap (λ (c : Option Code). act_at p.arrays c frame.place (store_of q frame)) code ∙ ap (λ (c : Option Step). act_in p.arrays (linked_code p f) frame.place (store_of q frame) c) body in
    subst (λ (x : Act). Answers m l p s (steps_left_in p (frame ∷ older)) (applied (linked_system p) q frame older x)) (sym acts) tt

answers : (m : Segments) (l : Layout) (p : LinkedProgram) → IsPlaced m l p → ProgramTyped p → AllRows → (q : Machine) (s : State) → Related l p q s → (o : Option Step) → step_now p q ≡ o
    → Answers m l p s (steps_left p q) (step (linked_system p) (program.Running q))
answers m l p w typed rows q s related None now = none_in m l p q s q.frames related now
answers m l p w typed rows q s related (Some form) now = rows form m l p w typed q s related now

-- ---- the simulation

-- related states, with the steps that are left as rank
pub record Ranked (l : Layout) (p : LinkedProgram) (rank : ℕ) (q : Machine) (x : Standing) : Type 0 where
  pub state : State
  pub at : x ≡ At state
  pub related : Related l p q state
  pub rank_is : rank ≡ steps_left p q

module _ (m : Segments) (l : Layout) (p : LinkedProgram) (w : IsPlaced m l p) (typed : ProgramTyped p) (rows : AllRows) where
  same_output : (frames : List Frame) (q : Machine) (s : State) → RelatedIn l p q frames s → s.output ≡ q.output
  same_output [] q s related = absurd related
  same_output (frame ∷ older) q s a = a.holds.written

  moves : (left : ℕ) (new : Machine) (s t : State) → Advances m s t left (steps_left p new) → Related l p new t → Moves (machine m) (Ranked l p) left new (At s)
  moves left new s t (relation.Works lead) related = Works (steps_left p new) (At t) (leads_there m s t lead) (record { state = t; at = refl; related = related; rank_is = refl })
  moves left new s t (relation.Rests comes low) related = Rests (steps_left p new) (At t) (comes_there m s t comes) (record { state = t; at = refl; related = related; rank_is = refl }) low

  moved : (left : ℕ) (s : State) (x : program.State) → Answers m l p s left x → lower.Answers (machine m) (Ranked l p) left x (At s)
  moved left s (program.Running new) a = moves left new s a.state a.advances a.related
  moved left s (program.Ended old status) a = ends_there m s status old.output a
  moved left s (program.Undefined old function place) a = tt

  same : (rank : ℕ) (q : Machine) (x : Standing) → Ranked l p rank q x → shown_by (outcome_of x) ≡ Goes q.output
  same rank q x r = ap (λ (y : Standing). shown_by (outcome_of y)) r.at ∙ ap (λ (o : List ℕ). Goes o) (same_output q.frames q r.state r.related)

  keeps : (rank : ℕ) (q : Machine) (x : Standing) → Ranked l p rank q x → lower.Answers (machine m) (Ranked l p) rank (step (linked_system p) (program.Running q)) x
  keeps rank q x r =
      subst (λ (y : Standing). lower.Answers (machine m) (Ranked l p) rank (step (linked_system p) (program.Running q)) y) (sym r.at)
      (subst (λ n. lower.Answers (machine m) (Ranked l p) n (step (linked_system p) (program.Running q)) (At r.state)) (sym r.rank_is)
      (moved (steps_left p q) r.state (step (linked_system p) (program.Running q)) (answers m l p w typed rows q r.state r.related (step_now p q) refl)))

  simulates : Simulates (machine m) (linked_system p) (Ranked l p)
  simulates = record { same = same; keeps = keeps }

  -- from related states the machine follows
  pub related_follows : (q : Machine) (s : State) → Related l p q s → RunFollows (λ k. shown_by (exec m k s)) (λ n. shown_of (run (linked_system p) (program.Running q) n))
  related_follows q s related =
      simulation_follows (machine m) (steady m) (linked_system p) (Ranked l p) simulates (steps_left p q) q (At s) (record { state = s; at = refl; related = related; rank_is = refl })

-- ---- the start

module _ (m : Segments) (l : Layout) (p : LinkedProgram) (w : IsPlaced m l p) (typed : ProgramTyped p) where
  -- the first function takes nothing
  nothing_taken : (f : VersionedFunction) → slice_get p.functions p.main ≡ Some f → (i : ℕ) (b : Binding) → slice_get f.bindings i ≡ Some b → BindingFits m l p w typed f [] (0 + i) b
  nothing_taken f known i b at =
      let same : i ≡ 0 + i = omega arith in
      subst (λ n. BindingFits m l p w typed f [] n b) same (record {
        argument = λ k is. absurd (typed.main f known i k (at ∙ ap Some is));
        constant_fits = λ v is. (typed.functions p.main f known).constants i v (at ∙ ap Some is);
      })

  first_cells : (f : VersionedFunction) → slice_get p.functions p.main ≡ Some f → unwrap_or ((linked_system p).enters p.main []) [] ≡ opened (linked_code p f) []
  first_cells f known =
      ap (λ (c : Option Code). unwrap_or (opened_by c []) []) (slice_get-map (linked_code p) p.functions p.main ∙ ap (option_map (linked_code p)) known)

  first_machine : List ℕ → Machine
  first_machine input = record { arrays = first_arrays p.arrays; frames = fresh p.main (unwrap_or ((linked_system p).enters p.main []) []) ∷ []; input = input; output = [] }

  started : (input : List ℕ) (s : State) → (a : AtStart m l p input s)
      → ComesTo m s (AtFrame l p (fresh p.main (opened (linked_code p a.main) [])) [] (first_arrays p.arrays) input [])
  started input s a =
      let f = a.main in
      let known = a.known in
      let placed = w.functions p.main f known in
      reach_on m s _ _ (start_calls m s (top l) (l.address f.symbol) a.place w.near (omega (arith, placed.near)) (omega (arith, placed.aligned)) a.stub)
      (λ u k.
      let waiting : FramesWait l p u.mem p.main (u.reg 2) first_return [] = (k.stack, refl, refl) in
      let ready : Ready m l p w typed p.main first_return [] (first_arrays p.arrays) input [] u = record {
        waiting = waiting;
        room = omega arith;
        return_address = k.back;
        far = omega arith;
        arrays_held = subst (λ x. ArraysHeld l p x (first_arrays p.arrays)) (sym k.mem) a.arrays;
        input_left = k.input ∙ a.input_left;
        input_bytes = a.input_bytes;
        written = k.output ∙ a.written;
      } in
      entry_run m l p w typed [] (first_arrays p.arrays) input [] p.main f first_return [] u ready known k.place (λ j v e. absurd (none-some v e)) (omega (arith, k.stack)) (nothing_taken f known))

  pub start_follows : AllRows → (input : List ℕ) (s : State) → AtStart m l p input s → RunFollows (λ k. shown_by (exec m k s)) (λ n. shown_of (linked_run p input n))
  start_follows rows input s a =
      let c = started input s a in
      let cells = first_cells a.main a.known in
      let q : Machine = record { arrays = first_arrays p.arrays; frames = fresh p.main (opened (linked_code p a.main) []) ∷ []; input = input; output = [] } in
      let runs = λ (n : ℕ). shown_of (run (linked_system p) (program.Running q) n) in
      let follows = follows_before (machine m) (steady m) (At s) (At c.state) runs (comes_there m s c.state (comes_of m s c.state c.leads)) (related_follows m l p w typed rows q c.state c.holds) in
      subst (λ (x : List (Option Value)). RunFollows (λ k. shown_by (exec m k s))
      (λ n. shown_of (run (linked_system p) (program.Running (record { arrays = first_arrays p.arrays; frames = fresh p.main x ∷ []; input = input; output = [] })) n))) (sym cells) follows
