-- How the program's machine stands, without the output, which it hands on and does not keep, and what its answers say.
use Rattle.std.specs.Prelude.{◌≡◌, ℕ, ◌<◌, Bool, true, false, List, [], Option, Some, None}
use Rattle.rv64_meaning.specs.declared.machine.Machine.{Machine}
use Rattle.rv64_meaning.specs.declared.event.Event.{Event}
use Rattle.rv64_meaning.specs.declared.event.Event.TheVariants.{Quiet, Wrote, Ended, Trapped}
use Rattle.rv64_meaning.specs.declared.event.MachineState.{MachineState}
use Rattle.rv64_meaning.specs.declared.event.MachineState.TheVariants as states
use Rattle.rv64_meaning.specs.declared.fault.LoadError.{LoadError}
use Rattle.rv64_meaning.specs.declared.fault.LoadError.TheVariants as errors
use Rattle.rv64_meaning.specs.Machine.{Segments, State, Next, Go, End, Trap, Standing, At, EndedWith, TrappedAt, Outcome, bytes_from}
use Rattle.rv64_meaning.specs.Machine as shown
use Rattle.rv64_meaning.specs.View.{segments_of_hart, state_of, InOneSegment}

abbrev pub segments_of_machine : Machine → Segments
segments_of_machine m = segments_of_hart m.hart

-- its bytes, by their addresses
abbrev pub memory_of_machine : Machine → ℕ → ℕ
memory_of_machine m = (state_of m.hart).mem

-- how it stands, where it has written these bytes so far
abbrev pub standing_by : MachineState → State → List ℕ → Standing
standing_by states.Running s output = At (record s { output = output })
standing_by (states.Ended status) s output = EndedWith status output
standing_by (states.Trapped address) s output = TrappedAt address output

abbrev pub standing_of : Machine → List ℕ → Standing
standing_of m output = standing_by m.state (state_of m.hart) output

-- what a run shows that is left in a state, with an output
abbrev pub outcome_by : MachineState → List ℕ → Outcome
outcome_by states.Running output = shown.Running output
outcome_by (states.Ended status) output = shown.Ended status output
outcome_by (states.Trapped address) output = shown.Trapped address output

abbrev pub is_over : MachineState → Bool
is_over states.Running = false
is_over (states.Ended status) = true
is_over (states.Trapped address) = true

-- the bytes that a step wrote, which stand in memory
abbrev pub written_by : Machine → Event → List ℕ
written_by m Quiet = []
written_by m (Wrote address n) = bytes_from n (memory_of_machine m) address
written_by m (Ended status) = []
written_by m (Trapped address) = []

-- how the machine stands after an event
abbrev pub state_after : Event → MachineState
state_after Quiet = states.Running
state_after (Wrote address n) = states.Running
state_after (Ended status) = states.Ended status
state_after (Trapped address) = states.Trapped address

-- an event tells how the machine stands after the step
abbrev pub Tells : Event → Standing → Type 0
Tells Quiet (At s) = Unit {0}
Tells Quiet (EndedWith status output) = ⊥
Tells Quiet (TrappedAt address output) = ⊥
Tells (Wrote a n) (At s) = Unit {0}
Tells (Wrote a n) (EndedWith status output) = ⊥
Tells (Wrote a n) (TrappedAt address output) = ⊥
Tells (Ended told) (At s) = ⊥
Tells (Ended told) (EndedWith status output) = told ≡ status
Tells (Ended told) (TrappedAt address output) = ⊥
Tells (Trapped told) (At s) = ⊥
Tells (Trapped told) (EndedWith status output) = ⊥
Tells (Trapped told) (TrappedAt address output) = told ≡ address

-- the bytes that an event names are some, and lie in one segment
abbrev pub NamesBytes : Event → Segments → Type 0
NamesBytes Quiet m = Unit {0}
NamesBytes (Wrote a n) m = (0 < n) × InOneSegment m a n
NamesBytes (Ended status) m = Unit {0}
NamesBytes (Trapped address) m = Unit {0}

-- why an image was not loaded: its first fault, or want of memory for one that has none
abbrev pub IsCause : LoadError → Option ℕ → Type 0
IsCause (errors.Fault fault) first = first ≡ Some fault.offset
IsCause errors.NoMemory first = first ≡ None

-- the bytes that a step adds to an output that was empty
abbrev pub output_by : Next → List ℕ
output_by (Go t) = t.output
output_by (End status) = []
output_by Trap = []
