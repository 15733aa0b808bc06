-- Where the parts of a program's image lie in the machine: stubs, functions, arrays, the scratch byte and the stack, which has room
-- for as many frames of the largest size as calls may be active.
use Rattle.std.specs.Prelude.{◌≡◌, ◌≢◌, ◌<◌, ◌≤◌, ◌⊎◌, ◌+◌, ◌-◌, ◌*◌, ◌%◌, ◌^◌, ℕ, pos, true, List, [], ◌∷◌, length, slice_get, Some, codes}
use Rattle.gimple_ir.specs.declared.types.Array.{Array}
use Rattle.gimple_ir.specs.declared.unit.ArrayUse.{ArrayUse}
use Rattle.gimple_ir.specs.declared.versioned.VersionedFunction.{VersionedFunction}
use Rattle.gimple_meaning.specs.Systems.{most_frames}
use Rattle.rv64_isa.specs.declared.instr.Instr.{Instr}
use Rattle.rv64_isa.specs.declared.instr.Instr.TheVariants.{Addi, Ecall}
use Rattle.rv64_meaning.specs.Machine.{Segments}
use Rattle.rv64_abi.specs.Registers.{a7}
use Rattle.rv64_frame.specs.Frames.{frame_of, frame_size}
use Rattle.rv64_select.specs.Assembly.{entry_items}
use Rattle.rv64_select.specs.Code.{Places, direct, places_of, code_of}
use Rattle.final_link.specs.Arrays.{element_size}
use Rattle.final_link.specs.Stubs.{start_address, putchar_address, getchar_address, putchar_stub, getchar_stub}
use Rattle.follow_laws.specs.Relation.{StandsAt}
use Rattle.follow_laws.specs.Selections.{address_of}
use Rattle.gimple_meaning.specs.Linked.{LinkedProgram}

pub record Layout : Type 0 where
  -- the address of each symbol, and of the array with a number
  pub address : List ℕ → ℕ
  pub array : ℕ → ℕ
  -- the byte by which stubs read and write
  pub scratch : ℕ
  -- where the stack begins, and the size of the largest frame
  pub stack : ℕ
  pub frame : ℕ

-- the stack's top, from which it grows downwards
abbrev pub top : Layout → ℕ
top l = l.stack + most_frames * l.frame

-- ---- a function

abbrev pub places_in : Layout → VersionedFunction → Places
places_in l f = places_of l.address f (l.address f.symbol)

abbrev pub function_code : Layout → VersionedFunction → List Instr
function_code l f = code_of l.address f (l.address f.symbol)

abbrev pub entry_code : Layout → VersionedFunction → List Instr
entry_code l f = direct (places_in l f) (l.address f.symbol) (entry_items (frame_of f) f.bindings)

-- the address of the first word of the step at a place
abbrev pub place_address : Layout → VersionedFunction → ℕ → ℕ
place_address l f place = address_of (places_in l f) f (l.address f.symbol + 4 * length (entry_code l f)) f.body place

-- the return address of the call that is the first frame's, in the start stub
abbrev pub first_return : ℕ
first_return = start_address + 16

-- ---- what an image has

pub record FunctionPlaced (m : Segments) (l : Layout) (f : VersionedFunction) : Type 0 where
  pub code : StandsAt m (l.address f.symbol) (function_code l f)
  pub near : l.address f.symbol + 4 * length (function_code l f) < 2 ^ 30
  pub aligned : l.address f.symbol % 4 ≡ 0
  pub size : frame_size f ≤ l.frame

pub record StubsPlaced (m : Segments) (l : Layout) : Type 0 where
  pub putchar : StandsAt m putchar_address (putchar_stub l.scratch)
  pub getchar : StandsAt m getchar_address (getchar_stub l.scratch)
  pub putchar_named : l.address (codes "__builtin_putchar") ≡ putchar_address
  pub getchar_named : l.address (codes "__builtin_getchar") ≡ getchar_address
  -- the end of the run, behind the call of `main`
  pub ending : StandsAt m first_return (Addi a7 0 (pos 93) ∷ (Ecall ∷ []))

abbrev pub array_bytes : Array → ℕ
array_bytes a = element_size a.element * a.length

-- a kept array lies in the data segment, below the scratch byte
pub record ArrayPlaced (m : Segments) (l : Layout) (number : ℕ) (a : Array) : Type 0 where
  pub aligned : l.array number % 8 ≡ 0
  pub above : m.data_start ≤ l.array number
  pub below : l.array number + array_bytes a ≤ l.scratch

-- two kept arrays have no byte in common
abbrev pub ArraysApart : Layout → LinkedProgram → Type 0
ArraysApart l p =
    (n k : ℕ) (a b : Array) → n ≢ k → slice_get p.arrays n ≡ Some a → slice_get p.arrays k ≡ Some b → p.is_kept n ≡ true → p.is_kept k ≡ true
    → ((l.array n + array_bytes a ≤ l.array k) ⊎ (l.array k + array_bytes b ≤ l.array n))

-- the array that a function names is kept, has the element type that the code counts with, and its symbol's address
pub record UsePlaced (l : Layout) (p : LinkedProgram) (u : ArrayUse) : Type 0 where
  pub kept : p.is_kept (p.array_named u.symbol) ≡ true
  pub element : (a : Array) → slice_get p.arrays (p.array_named u.symbol) ≡ Some a → a.element ≡ u.element
  pub address : l.address u.symbol ≡ l.array (p.array_named u.symbol)

pub record IsPlaced (m : Segments) (l : Layout) (p : LinkedProgram) : Type 0 where
  pub functions : (g : ℕ) (f : VersionedFunction) → slice_get p.functions g ≡ Some f → FunctionPlaced m l f
  pub stubs : StubsPlaced m l
  pub arrays : (n : ℕ) (a : Array) → slice_get p.arrays n ≡ Some a → p.is_kept n ≡ true → ArrayPlaced m l n a
  pub apart : ArraysApart l p
  -- symbols in functions
  pub uses : (g k : ℕ) (f : VersionedFunction) (u : ArrayUse) → slice_get p.functions g ≡ Some f → slice_get f.arrays k ≡ Some u → UsePlaced l p u
  pub calls : (g k : ℕ) (f callee : VersionedFunction) (symbol : List ℕ) → slice_get p.functions g ≡ Some f → slice_get f.calls k ≡ Some symbol
      → slice_get p.functions (p.function_named symbol) ≡ Some callee → l.address symbol ≡ l.address callee.symbol
  -- the data segment: the arrays, the scratch byte, the stack
  pub scratch_above : m.data_start ≤ l.scratch
  pub scratch_below : l.scratch < l.stack
  pub end : m.data_end ≡ top l
  pub near : top l < 2 ^ 31 - 2 ^ 11
  pub stack_aligned : l.stack % 16 ≡ 0
  pub frame_aligned : l.frame % 16 ≡ 0
