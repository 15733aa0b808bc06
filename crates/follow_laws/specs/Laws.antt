-- The laws by which an image is shown to follow a program, each over any machine and any program.
use Rattle.std.specs.Prelude.{◌≡◌, ℕ, suc, ◌+◌, ◌*◌, List, ◌++◌, length, Some}
use Rattle.rv64_isa.specs.declared.instr.Instr.{Instr}
use Rattle.rv64_meaning.specs.Machine.{Segments, State, Go, fetch, effect, exec}
use Rattle.gimple_meaning.specs.Systems.{System, Machine, Running, Ended}
use Rattle.gimple_meaning.specs.Systems as program
use Rattle.gimple_meaning.specs.Run.{run}
use Rattle.gimple_meaning.specs.Shown.{shown_of, RunFollows}
use Rattle.follow_laws.specs.Follows.{shown_by}
use Rattle.follow_laws.specs.Relation.{StandsAt, Comes, Leads, EndsWith, Advances}

-- ---- coming to states

abbrev pub ComesOn : Type 0
ComesOn = (m : Segments) (s t u : State) → Comes m s t → Comes m t u → Comes m s u

abbrev pub LeadsOn : Type 0
LeadsOn = (m : Segments) (s t u : State) → Leads m s t → Comes m t u → Leads m s u

abbrev pub LeadsTwice : Type 0
LeadsTwice = (m : Segments) (s t u : State) → Leads m s t → Leads m t u → Leads m s u

abbrev pub LeadsComes : Type 0
LeadsComes = (m : Segments) (s t : State) → Leads m s t → Comes m s t

abbrev pub ComesToLead : Type 0
ComesToLead = (m : Segments) (s t u : State) → Comes m s t → Leads m t u → Leads m s u

abbrev pub ComesToEnd : Type 0
ComesToEnd = (m : Segments) (s t : State) (status : ℕ) (output : List ℕ) → Comes m s t → EndsWith m t status output → EndsWith m s status output

-- an instruction that stands where the machine is
abbrev pub InstructionLeads : Type 0
InstructionLeads = (m : Segments) (s t : State) (i : Instr) → fetch m s.pc ≡ Some i → effect m i s ≡ Go t → Leads m s t

-- ---- places

abbrev pub FrontStands : Type 0
FrontStands = (m : Segments) (address : ℕ) (front back : List Instr) → StandsAt m address (front ++ back) → StandsAt m address front

abbrev pub BackStands : Type 0
BackStands = (m : Segments) (address : ℕ) (front back : List Instr) → StandsAt m address (front ++ back) → StandsAt m (address + 4 * length front) back

-- ---- following

-- Where the machine meets each step of a program: the outputs are the same there, the machine makes a step from one meeting to the
-- next or a rank falls, and where the program ends, the machine does. Nothing is asked once the program is undefined.
pub record Meets (m : Segments) (runs : ℕ → program.State) (states : ℕ → State) (ranks : ℕ → ℕ) : Type 0 where
  pub same : (n : ℕ) (p : Machine) → runs n ≡ Running p → (states n).output ≡ p.output
  pub on : (n : ℕ) (p q : Machine) → runs n ≡ Running p → runs (suc n) ≡ Running q → Advances m (states n) (states (suc n)) (ranks n) (ranks (suc n))
  pub ends : (n : ℕ) (p q : Machine) (status : ℕ) → runs n ≡ Running p → runs (suc n) ≡ Ended q status → EndsWith m (states n) status q.output

-- a forward simulation with progress of a program by the machine, which does the same whenever it is run, is all that follows asks
abbrev pub SimulationFollows : Type 0
SimulationFollows =
    (m : Segments) (system : System) (p : Machine) (states : ℕ → State) (ranks : ℕ → ℕ)
    → Meets m (run system (Running p)) states ranks
    → RunFollows (λ k. shown_by (exec m k (states 0))) (λ n. shown_of (run system (Running p) n))
