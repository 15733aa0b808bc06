-- What acts do to the stack of frames, said once for every program: a program is a `System`, and a step takes the act of the
-- statement at the newest frame's place and applies it. A step is one statement, labels and empty statements included; of a run
-- that is over, ended or undefined, it changes nothing.
use Rattle.std.specs.Prelude.{ℕ, ◌+◌, ◌-◌, ℤ, pos, List, [], ◌∷◌, ◌++◌, Option, Some, None, Bool, true, false, map, replicate, slice_set, length, nat_lt, unwrap_or}
use Rattle.gimple_ir.specs.declared.types.Array.{Array}
use Rattle.gimple_ir.specs.declared.types.Value.{Value}
use Rattle.gimple_meaning.specs.Acts.{Store, Act, Fault, Goes, Calls, Leaves, Exits, low_byte}

-- ---- states

-- an activation of a function: the place of its next statement, and each component's value where it is set; while a call of it
-- is active, the place is that of the call
pub record Frame : Type 0 where
  pub function : ℕ
  pub place : ℕ
  pub components : List (Option Value)

-- what a run has at a moment: the numbers in the arrays, the frames, the newest first, the input that is left, and the output
pub record Machine : Type 0 where
  pub arrays : List (List ℤ)
  pub frames : List Frame
  pub input : List ℕ
  pub output : List ℕ

-- going on; ended with a status; or undefined at a function and statement
pub data State : Type 0 where
  Running : (machine : Machine) → State
  Ended : (machine : Machine) (status : ℕ) → State
  Undefined : (machine : Machine) (function : ℕ) (place : ℕ) → State

-- ---- programs

pub record System : Type 0 where
  -- what the statement of a function at a place does
  pub acts : ℕ → ℕ → Store → Act
  -- a new frame's components, from the arguments of a call of the function
  pub enters : ℕ → List (Option Value) → Option (List (Option Value))
  -- the component that takes the result of the call that stands in a function at a place
  pub receives : ℕ → ℕ → Option ℕ

-- ---- frames

-- at most so many calls are active, the first frame included
abbrev pub most_frames : ℕ
most_frames = 4096

abbrev pub fresh : ℕ → List (Option Value) → Frame
fresh function cells = record { function = function; place = 0; components = cells }

abbrev pub moved : Frame → ℕ → List (Option Value) → Frame
moved frame place cells = record frame { place = place; components = cells }

-- components with the result of a call, where it has a target
abbrev pub received : Option ℕ → Option Value → List (Option Value) → List (Option Value)
received (Some to) value cells = slice_set cells to value
received None value cells = cells

-- a frame whose call has given a value, or none
abbrev pub resumed : System → Frame → Option Value → Frame
resumed system frame value =
    moved frame (frame.place + 1) (received (system.receives frame.function frame.place) value frame.components)

-- the first frame's value as a status: its low 8 bits
abbrev pub status : Option Value → ℕ
status None = 0
status (Some v) = low_byte v.num

-- ---- a step

abbrev pub undefined_at : Machine → Frame → State
undefined_at m frame = Undefined m frame.function frame.place

-- a call, if there is room for a frame, and a function
abbrev pub entered : Machine → Frame → List Frame → ℕ → Bool → Option (List (Option Value)) → State
entered m frame rest function true (Some cells) = Running (record m { frames = fresh function cells ∷ frame ∷ rest })
entered m frame rest function true None = undefined_at m frame
entered m frame rest function false cells = undefined_at m frame

-- a return: the first frame's ends the run
abbrev pub left : System → Machine → List Frame → Option Value → State
left system m [] value = Ended m (status value)
left system m (caller ∷ older) value = Running (record m { frames = resumed system caller value ∷ older })

-- what the act of `frame`, above `rest`, makes of a run
abbrev pub applied : System → Machine → Frame → List Frame → Act → State
applied system m frame rest Fault = undefined_at m frame
applied system m frame rest (Goes place store written) =
    Running (record { arrays = store.arrays; frames = moved frame place store.cells ∷ rest; input = store.input; output = m.output ++ written })
applied system m frame rest (Calls function arguments) =
    entered m frame rest function (nat_lt (length (frame ∷ rest)) most_frames) (system.enters function arguments)
applied system m frame rest (Leaves value) = left system m rest value
applied system m frame rest (Exits status) = Ended m status

abbrev pub store_of : Machine → Frame → Store
store_of m frame = record { cells = frame.components; arrays = m.arrays; input = m.input }

abbrev pub next : System → Machine → List Frame → State
next system m [] = Running m
next system m (frame ∷ rest) = applied system m frame rest (system.acts frame.function frame.place (store_of m frame))

abbrev pub step : System → State → State
step system (Running m) = next system m m.frames
step system (Ended m status) = Ended m status
step system (Undefined m function place) = Undefined m function place

-- ---- the first state

-- initial values that are missing are 0
abbrev pub first_numbers : Array → List ℤ
first_numbers a = a.initial ++ replicate (a.length - length a.initial) (pos 0)

abbrev pub first_arrays : List Array → List (List ℤ)
first_arrays arrays = map first_numbers arrays

-- one frame, of the function `main`, at its first statement
abbrev pub start_in : System → List Array → ℕ → List ℕ → State
start_in system arrays main input =
    Running (record { arrays = first_arrays arrays; frames = fresh main (unwrap_or (system.enters main []) []) ∷ []; input = input; output = [] })
