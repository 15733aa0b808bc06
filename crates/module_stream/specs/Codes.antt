-- The bytes that stand for opcodes, operators, types, linkage and flags: for each sort its table, and the byte of each.
use Rattle.std.specs.Prelude.{ℕ, List, [], ◌∷◌, Bool, true, false}
use Rattle.gimple_ir.specs.declared.types.ScalarType.{ScalarType}
use Rattle.gimple_ir.specs.declared.types.ScalarType.TheVariants as scalar
use Rattle.gimple_ir.specs.declared.types.ElementType.{ElementType}
use Rattle.gimple_ir.specs.declared.types.ElementType.TheVariants as element
use Rattle.gimple_ir.specs.declared.types.ResultType.{ResultType}
use Rattle.gimple_ir.specs.declared.types.ResultType.TheVariants as returned
use Rattle.gimple_ir.specs.declared.types.Linkage.{Linkage}
use Rattle.gimple_ir.specs.declared.types.Linkage.TheVariants as linkage
use Rattle.gimple_ir.specs.declared.types.UnaryOp.{UnaryOp}
use Rattle.gimple_ir.specs.declared.types.UnaryOp.TheVariants as unary
use Rattle.gimple_ir.specs.declared.types.BinaryOp.{BinaryOp}
use Rattle.gimple_ir.specs.declared.types.BinaryOp.TheVariants as binary
use Rattle.module_stream.specs.declared.codes.Opcode.{Opcode}
use Rattle.module_stream.specs.declared.codes.Opcode.TheVariants as op

-- ---- opcodes and operators

abbrev pub opcode_table : List (ℕ × Opcode)
opcode_table =
    (0, op.Nop) ∷ (1, op.Label) ∷ (2, op.Goto) ∷ (3, op.Cond) ∷ (4, op.Switch) ∷ (5, op.ReturnVoid) ∷ (6, op.Return)
    ∷ (7, op.Copy) ∷ (8, op.Unary) ∷ (9, op.Convert) ∷ (10, op.Binary) ∷ (11, op.Load) ∷ (12, op.Store)
    ∷ (13, op.CopyStruct) ∷ (14, op.CallVoid) ∷ (15, op.Call) ∷ (16, op.Putchar) ∷ (17, op.GetcharVoid)
    ∷ (18, op.Getchar) ∷ (19, op.Exit) ∷ []

abbrev pub opcode_code : Opcode → ℕ
opcode_code op.Nop = 0
opcode_code op.Label = 1
opcode_code op.Goto = 2
opcode_code op.Cond = 3
opcode_code op.Switch = 4
opcode_code op.ReturnVoid = 5
opcode_code op.Return = 6
opcode_code op.Copy = 7
opcode_code op.Unary = 8
opcode_code op.Convert = 9
opcode_code op.Binary = 10
opcode_code op.Load = 11
opcode_code op.Store = 12
opcode_code op.CopyStruct = 13
opcode_code op.CallVoid = 14
opcode_code op.Call = 15
opcode_code op.Putchar = 16
opcode_code op.GetcharVoid = 17
opcode_code op.Getchar = 18
opcode_code op.Exit = 19

abbrev pub binary_table : List (ℕ × BinaryOp)
binary_table =
    (0, binary.Add) ∷ (1, binary.Sub) ∷ (2, binary.Mul) ∷ (3, binary.Div) ∷ (4, binary.Rem) ∷ (5, binary.And)
    ∷ (6, binary.Or) ∷ (7, binary.Xor) ∷ (8, binary.Shl) ∷ (9, binary.Shr) ∷ (10, binary.Eq) ∷ (11, binary.Ne)
    ∷ (12, binary.Lt) ∷ (13, binary.Le) ∷ (14, binary.Gt) ∷ (15, binary.Ge) ∷ []

abbrev pub binary_code : BinaryOp → ℕ
binary_code binary.Add = 0
binary_code binary.Sub = 1
binary_code binary.Mul = 2
binary_code binary.Div = 3
binary_code binary.Rem = 4
binary_code binary.And = 5
binary_code binary.Or = 6
binary_code binary.Xor = 7
binary_code binary.Shl = 8
binary_code binary.Shr = 9
binary_code binary.Eq = 10
binary_code binary.Ne = 11
binary_code binary.Lt = 12
binary_code binary.Le = 13
binary_code binary.Gt = 14
binary_code binary.Ge = 15

abbrev pub unary_table : List (ℕ × UnaryOp)
unary_table = (0, unary.Neg) ∷ (1, unary.Not) ∷ []

abbrev pub unary_code : UnaryOp → ℕ
unary_code unary.Neg = 0
unary_code unary.Not = 1

-- ---- types: 0 void, 1 to 4 the scalars, 5 unsigned char; 6 is a struct, and its number follows

abbrev pub type_table : List (ℕ × ScalarType)
type_table = (1, scalar.Int) ∷ (2, scalar.UnsignedInt) ∷ (3, scalar.LongInt) ∷ (4, scalar.LongUnsignedInt) ∷ []

abbrev pub type_code : ScalarType → ℕ
type_code scalar.Int = 1
type_code scalar.UnsignedInt = 2
type_code scalar.LongInt = 3
type_code scalar.LongUnsignedInt = 4

abbrev pub element_table : List (ℕ × ElementType)
element_table =
    (1, element.Scalar scalar.Int) ∷ (2, element.Scalar scalar.UnsignedInt) ∷ (3, element.Scalar scalar.LongInt)
    ∷ (4, element.Scalar scalar.LongUnsignedInt) ∷ (5, element.UnsignedChar) ∷ []

abbrev pub element_code : ElementType → ℕ
element_code (element.Scalar ty) = type_code ty
element_code element.UnsignedChar = 5

abbrev pub result_table : List (ℕ × ResultType)
result_table =
    (0, returned.Void) ∷ (1, returned.Scalar scalar.Int) ∷ (2, returned.Scalar scalar.UnsignedInt)
    ∷ (3, returned.Scalar scalar.LongInt) ∷ (4, returned.Scalar scalar.LongUnsignedInt) ∷ []

abbrev pub result_code : ResultType → ℕ
result_code returned.Void = 0
result_code (returned.Scalar ty) = type_code ty

-- ---- linkage

abbrev pub linkage_table : List (ℕ × Linkage)
linkage_table = (0, linkage.Extern) ∷ (1, linkage.Strong) ∷ (2, linkage.Weak) ∷ (3, linkage.Static) ∷ []

abbrev pub linkage_code : Linkage → ℕ
linkage_code linkage.Extern = 0
linkage_code linkage.Strong = 1
linkage_code linkage.Weak = 2
linkage_code linkage.Static = 3

-- ---- flags

abbrev pub flag_table : List (ℕ × Bool)
flag_table = (0, false) ∷ (1, true) ∷ []

abbrev pub flag_code : Bool → ℕ
flag_code false = 0
flag_code true = 1
