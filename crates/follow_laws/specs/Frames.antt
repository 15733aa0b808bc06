-- A frame of a program in the machine's memory: each component that is set has its machine form in its slot, and the return address
-- lies in the slot behind them.
use Rattle.std.specs.Prelude.{◌≡◌, ℕ, ◌+◌, ◌%◌, ◌^◌, ℤ, ◌<◌, ◌≤◌, ◌⊎◌, true, List, length, Option, Some, None, slice_set, replicate}
use Rattle.gimple_ir.specs.declared.types.ScalarType.{ScalarType}
use Rattle.gimple_ir.specs.declared.types.Operand.{Operand}
use Rattle.gimple_ir.specs.declared.types.Value.{Value}
use Rattle.gimple_ir.specs.declared.versioned.VersionedFunction.{VersionedFunction}
use Rattle.gimple_meaning.specs.Acts.{low_byte, cell, value_at}
use Rattle.rv64_meaning.specs.Arithmetic.{bits64}
use Rattle.rv64_meaning.specs.Machine.{Segments, State, load, store, can_load, can_store}
use Rattle.rv64_abi.specs.Registers.{sp}
use Rattle.rv64_frame.specs.Frames.{component_slot, return_slot}
use Rattle.rv64_select.specs.Templates.{machine_form}
use Rattle.follow_laws.specs.Selections.{operand_bits}

-- the 64 bits of a value
abbrev pub form_of : Value → ℕ
form_of v = bits64 (machine_form v.ty v.num)

-- the low 8 bits of a number are those of its 64 bits, and those of its machine form in any type
abbrev pub LowByteKept : Type 0
LowByteKept = (number : ℤ) → (bits64 number % 2 ^ 8 ≡ low_byte number) × ((type : ScalarType) → bits64 (machine_form type number) % 2 ^ 8 ≡ low_byte number)

-- the components of a frame of a function, from an address up, and the address that it returns to
pub record FrameHeld (f : VersionedFunction) (mem : ℕ → ℕ) (base ret : ℕ) (cells : List (Option Value)) : Type 0 where
  pub long : length cells ≡ length f.types
  pub slots : (i : ℕ) (v : Value) → cell cells i ≡ Some v → load 8 mem (base + component_slot f i) ≡ form_of v
  pub back : load 8 mem (base + return_slot f) ≡ ret

-- a frame without values, once its return address is kept
abbrev pub FreshHeld : Type 0
FreshHeld =
    (f : VersionedFunction) (mem : ℕ → ℕ) (base ret : ℕ) → load 8 mem (base + return_slot f) ≡ ret → FrameHeld f mem base ret (replicate (length f.types) None)

-- a store below the components or above the return address
abbrev pub StoreApart : Type 0
StoreApart =
    (f : VersionedFunction) (mem : ℕ → ℕ) (base ret : ℕ) (cells : List (Option Value)) (n a bits : ℕ) → FrameHeld f mem base ret cells
    → ((a + n ≤ base + component_slot f 0) ⊎ (base + return_slot f + 8 ≤ a)) → FrameHeld f (store n mem a bits) base ret cells

-- a value's form stored in a component's slot
abbrev pub StoreSets : Type 0
StoreSets =
    (f : VersionedFunction) (mem : ℕ → ℕ) (base ret : ℕ) (cells : List (Option Value)) (i : ℕ) (v : Value) → FrameHeld f mem base ret cells → i < length f.types
    → FrameHeld f (store 8 mem (base + component_slot f i) (form_of v)) base ret (slice_set cells i (Some v))

-- an operand that is set, where the frame lies at the stack pointer
abbrev pub OperandHeld : Type 0
OperandHeld =
    (f : VersionedFunction) (s : State) (ret : ℕ) (cells : List (Option Value)) (o : Operand) (v : Value) → FrameHeld f s.mem (s.reg sp) ret cells → value_at cells o ≡ Some v
    → operand_bits f s o ≡ form_of v

-- n bytes that are aligned and inside the data segment
abbrev pub DataReached : Type 0
DataReached = (m : Segments) (a n : ℕ) → a % n ≡ 0 → m.data_start ≤ a → a + n ≤ m.data_end → (can_load m a n ≡ true) × (can_store m a n ≡ true)
