-- A run of a source program with its newest frame apart: the interpreter's state between two steps.
use Rattle.std.specs.Prelude.{ℕ, ℤ, List, ◌∷◌, Option, Some, None, map, if◌then◌else◌, length, nat_lt, slice_get, slice_set}
use Rattle.std.specs.List.{flat_map}
use Rattle.gimple_ir.specs.Values.{value_of}
use Rattle.gimple_ir.specs.declared.types.ScalarType.TheVariants.{Int}
use Rattle.gimple_ir.specs.declared.types.Arg.{Arg}
use Rattle.gimple_ir.specs.declared.types.Function.{Function}
use Rattle.gimple_ir.specs.declared.types.Program.{Program}
use Rattle.gimple_ir.specs.declared.types.Statement.{Statement}
use Rattle.gimple_ir.specs.declared.types.Value.{Value}
use Rattle.gimple_meaning.specs.declared.moves.Move.{Move}
use Rattle.gimple_meaning.specs.declared.phase.Phase.{Phase}
use Rattle.gimple_meaning.specs.declared.phase.Phase.TheVariants as phase
use Rattle.gimple_meaning.specs.Acts.{Act, Fault, Calls, value_at, read_byte, unread}
use Rattle.gimple_meaning.specs.Moves.{act_of}
use Rattle.gimple_meaning.specs.Source.{source_of, can_pass, operands_of, effect}
use Rattle.gimple_meaning.specs.Systems.{Frame, Machine, State, most_frames, moved, Running, Ended, Undefined, applied, store_of, step}

pub record Stage : Type 0 where
  pub program : Program
  pub frame : Frame
  pub rest : List Frame
  pub arrays : List (List ℤ)
  pub input : List ℕ
  pub output : List ℕ

abbrev pub machine_of : Stage → Machine
machine_of s = record { arrays = s.arrays; frames = s.frame ∷ s.rest; input = s.input; output = s.output }

abbrev pub state_of : Stage → Phase → State
state_of s phase.Running = Running (machine_of s)
state_of s (phase.Ended status) = Ended (machine_of s) status
state_of s phase.Undefined = Undefined (machine_of s) s.frame.function s.frame.place

-- what an act makes of it, what a plan does, what a call does, and what a return does
abbrev pub acted : Stage → Act → State
acted s act = applied (source_of s.program) (machine_of s) s.frame s.rest act

abbrev pub planned_from : Stage → Function → Move → State
planned_from s f move = acted s (act_of f s.frame.place (store_of (machine_of s) s.frame) move)

abbrev pub call_act : Function → List (Option Value) → ℕ → List Arg → Act
call_act f cells g args =
    if can_pass cells args then Calls g (map (value_at cells) (flat_map (operands_of f.variables) args)) else Fault

abbrev pub called_from : Stage → Function → ℕ → List Arg → State
called_from s f g args = acted s (call_act f s.frame.components g args)

abbrev pub stepped : Stage → State
stepped s = step (source_of s.program) (Running (machine_of s))

-- the function of the newest frame
abbrev pub function_at : Stage → Option Function
function_at s = slice_get s.program.functions s.frame.function

-- a byte read, into a component where there is one
abbrev pub read_from : Stage → ℕ → Option ℕ → Stage
read_from s place None = record s { frame = moved s.frame place s.frame.components; input = unread s.input }
read_from s place (Some to) =
    record s { frame = moved s.frame place (slice_set s.frame.components to (Some (value_of Int (read_byte s.input)))); input = unread s.input }

-- the components of the called frame, or None where the call is undefined
abbrev pub opened_from : Stage → Function → ℕ → List Arg → Option (List (Option Value))
opened_from s f g args =
    if can_pass s.frame.components args
    then (if nat_lt (length (s.frame ∷ s.rest)) most_frames then (source_of s.program).enters g (map (value_at s.frame.components) (flat_map (operands_of f.variables) args)) else None)
    else None

-- what the statement does at which the newest frame stands
abbrev pub effect_from : Stage → Function → Statement → State
effect_from s f statement = acted s (effect s.program.arrays f s.frame.place (store_of (machine_of s) s.frame) statement)

-- a program, and how its run stands
pub record Run : Type 0 where
  pub program : Program
  pub state : State
