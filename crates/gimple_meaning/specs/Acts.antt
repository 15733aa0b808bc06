-- What one statement does to the frame that runs it, to the arrays and to the input: its act. An act knows nothing of the other
-- frames; what acts do to the stack of frames is said in `Systems`, once for every program.
use Rattle.std.specs.Prelude.{ℕ, zero, suc, ◌+◌, ℤ, pos, negsuc, List, [], ◌∷◌, Option, Some, None, Bool, if◌then◌else◌, slice_get, slice_set, option_and_then, unsigned_abs, find, ◌||◌}
use Rattle.std.specs.Option.{option_map_or, option_map}
use Rattle.std.specs.Int.{int_rem_euclid}
use Rattle.std.specs.Ordering.{int_eq}
use Rattle.gimple_ir.specs.Values.{binary_of, value_of, reduced}
use Rattle.gimple_ir.specs.Lattices.{same_type}
use Rattle.gimple_ir.specs.Statements.{is_shift, read_type}
use Rattle.gimple_ir.specs.declared.types.ElementType.{ElementType}
use Rattle.gimple_ir.specs.declared.types.ElementType.TheVariants as element
use Rattle.gimple_ir.specs.declared.types.BinaryOp.{BinaryOp}
use Rattle.gimple_ir.specs.declared.types.Operand.{Operand}
use Rattle.gimple_ir.specs.declared.types.Operand.TheVariants.{Component, Literal}
use Rattle.gimple_ir.specs.declared.types.Array.{Array}
use Rattle.gimple_ir.specs.declared.types.Case.{Case}
use Rattle.gimple_ir.specs.declared.types.Value.{Value}
use Rattle.gimple_ir.specs.declared.versioned.Pair.{Pair}

-- what an act reads and leaves: the components of its frame, each with its value where it is set, the numbers in the arrays, and
-- the input that is left
pub record Store : Type 0 where
  pub cells : List (Option Value)
  pub arrays : List (List ℤ)
  pub input : List ℕ

pub data Act : Type 0 where
  -- the statement is undefined here
  Fault : Act
  -- the frame goes on at a place, with what is stored then, and the bytes are written to the output
  Goes : (place : ℕ) (store : Store) (written : List ℕ) → Act
  -- the frame waits for a call of the function
  Calls : (function : ℕ) (arguments : List (Option Value)) → Act
  -- the frame is left, with a value or none
  Leaves : (value : Option Value) → Act
  -- the run ends
  Exits : (status : ℕ) → Act

-- the act that is made of a thing that is there
abbrev pub needing : {T : Type 0} → Option T → (T → Act) → Act
needing None next = Fault
needing (Some v) next = next v

-- the low 8 bits
abbrev pub low_byte : ℤ → ℕ
low_byte z = unsigned_abs (int_rem_euclid z (pos 256))

-- ---- components

abbrev pub cell : List (Option Value) → ℕ → Option Value
cell [] i = None
cell (x ∷ xs) zero = x
cell (x ∷ xs) (suc i) = cell xs i

abbrev pub value_at : List (Option Value) → Operand → Option Value
value_at cells (Component i) = cell cells i
value_at cells (Literal v) = Some v

-- the next statement, with a component set
abbrev pub sets : ℕ → Store → ℕ → Value → Act
sets place s to v = Goes (place + 1) (record s { cells = slice_set s.cells to (Some v) }) []

-- moves of components in order; one that is unset stays unset, and nothing is read
abbrev pub copied : List (Option Value) → List Pair → List (Option Value)
copied cells [] = cells
copied cells (p ∷ ps) = copied (slice_set cells p.to (value_at cells p.from)) ps

-- ---- operations and jumps

-- both operands of one type, or the second one a shift's count
abbrev pub operands_fit : BinaryOp → Value → Value → Bool
operands_fit op a b = is_shift op || same_type a.ty b.ty

-- an operation on two operands; on operands that do not fit, which no checked program has, it is undefined
abbrev pub operation_of : BinaryOp → Value → Value → Option Value
operation_of op a b = if operands_fit op a b then binary_of op a b else None

-- the label of the case with this number
abbrev pub case_label : List Case → ℤ → ℕ → ℕ
case_label cases z otherwise = option_map_or (λ c. c.label) (find (λ c. int_eq c.value.num z) cases) otherwise

-- ---- arrays

abbrev pub element_type : List Array → ℕ → Option ElementType
element_type arrays array = option_map (λ a. a.element) (slice_get arrays array)

-- None where the index is not from 0 below the length
abbrev pub element_at : List (List ℤ) → ℕ → ℤ → Option ℤ
element_at arrays array (pos i) = option_and_then (λ numbers. slice_get numbers i) (slice_get arrays array)
element_at arrays array (negsuc i) = None

-- an element as it is read, and a number as it is stored: an `unsigned char` keeps the low 8 bits
abbrev pub loaded : ElementType → ℤ → Value
loaded element z = value_of (read_type element) z

abbrev pub stored : ElementType → ℤ → ℤ
stored element.UnsignedChar z = pos (low_byte z)
stored (element.Scalar ty) z = reduced ty z

abbrev pub with_element : List (List ℤ) → ℕ → ℕ → ℤ → List (List ℤ)
with_element [] array i z = []
with_element (numbers ∷ more) zero i z = slice_set numbers i z ∷ more
with_element (numbers ∷ more) (suc array) i z = numbers ∷ with_element more array i z

-- ---- input

-- the next byte, or -1 at the end; and what is left
abbrev pub read_byte : List ℕ → ℤ
read_byte [] = negsuc 0
read_byte (byte ∷ more) = pos byte

abbrev pub unread : List ℕ → List ℕ
unread [] = []
unread (byte ∷ more) = more
