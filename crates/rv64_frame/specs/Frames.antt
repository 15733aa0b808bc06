-- A function's frame, in slots of 8 bytes from the stack pointer up: the arguments that it passes, its components, and
-- the return address; the size is rounded up to the 16 bytes to which the psABI aligns the stack pointer.
use Rattle.std.specs.Prelude.{ℕ, ◌+◌, ◌*◌, ◌/◌, ◌≤◌, max, List, [], ◌∷◌, length}
use Rattle.gimple_ir.specs.declared.versioned.Step.{Step}
use Rattle.gimple_ir.specs.declared.versioned.Step.TheVariants as steps
use Rattle.gimple_ir.specs.declared.versioned.VersionedFunction.{VersionedFunction}
use Rattle.rv64_frame.specs.declared.layout.FrameLayout.{FrameLayout}

-- how many arguments a step passes
abbrev pub passed_of : Step → ℕ
passed_of (steps.Call to call args) = length args
passed_of _ = 0

-- the largest number of arguments that a step passes
abbrev pub outgoing_of : List Step → ℕ
outgoing_of [] = 0
outgoing_of (s ∷ ss) = max (passed_of s) (outgoing_of ss)

-- ---- slots, by the layout

-- where outgoing argument j lies
abbrev pub outgoing_slot : ℕ → ℕ
outgoing_slot j = 8 * j

-- where component j lies
abbrev pub slot_in : FrameLayout → ℕ → ℕ
slot_in layout j = 8 * (layout.outgoing + j)

-- where the return address lies
abbrev pub return_in : FrameLayout → ℕ
return_in layout = 8 * (layout.outgoing + layout.components)

-- where argument k of the caller lies
abbrev pub incoming_in : FrameLayout → ℕ → ℕ
incoming_in layout k = layout.size + 8 * k

-- ---- the layout of a function, and its slots

-- the size in bytes
abbrev pub frame_size : VersionedFunction → ℕ
frame_size f = (8 * (outgoing_of f.body + length f.types + 1) + 15) / 16 * 16

abbrev pub frame_of : VersionedFunction → FrameLayout
frame_of f = record { outgoing = outgoing_of f.body; components = length f.types; size = frame_size f }

abbrev pub component_slot : VersionedFunction → ℕ → ℕ
component_slot f j = slot_in (frame_of f) j

abbrev pub return_slot : VersionedFunction → ℕ
return_slot f = return_in (frame_of f)

abbrev pub incoming_slot : VersionedFunction → ℕ → ℕ
incoming_slot f k = incoming_in (frame_of f) k

-- a frame of few slots: at most 1,024 components, and 64 arguments in a call
pub record HasFewSlots (f : VersionedFunction) : Type 0 where
  pub components : length f.types ≤ 1024
  pub arguments : outgoing_of f.body ≤ 64
