-- Each code stands in its table, and each row of a table has its code.
use Rattle.std.proofs.Common.{◌≡◌, Bool, true, false, Some, refl}
use Rattle.gimple_ir.specs.declared.types.ScalarType.{ScalarType}
use Rattle.gimple_ir.specs.declared.types.ScalarType.TheVariants as scalar
use Rattle.gimple_ir.specs.declared.types.ElementType.{ElementType}
use Rattle.gimple_ir.specs.declared.types.ElementType.TheVariants as element
use Rattle.gimple_ir.specs.declared.types.ResultType.{ResultType}
use Rattle.gimple_ir.specs.declared.types.ResultType.TheVariants as returned
use Rattle.gimple_ir.specs.declared.types.Linkage.{Linkage}
use Rattle.gimple_ir.specs.declared.types.Linkage.TheVariants as linkage
use Rattle.gimple_ir.specs.declared.types.UnaryOp.{UnaryOp}
use Rattle.gimple_ir.specs.declared.types.UnaryOp.TheVariants as unary
use Rattle.gimple_ir.specs.declared.types.BinaryOp.{BinaryOp}
use Rattle.gimple_ir.specs.declared.types.BinaryOp.TheVariants as binary
use Rattle.module_stream.specs.declared.codes.Opcode.{Opcode}
use Rattle.module_stream.specs.declared.codes.Opcode.TheVariants as op
use Rattle.module_stream.specs.Readers.{pick}
use Rattle.module_stream.specs.Codes.{opcode_table, opcode_code, binary_table, binary_code, unary_table, unary_code, type_table, type_code, element_table, element_code, result_table, result_code, linkage_table, linkage_code, flag_table, flag_code}
use Rattle.module_stream.proofs.Exact.{IsTable}

opcode_found : (x : Opcode) → pick (opcode_code x) opcode_table ≡ Some x
opcode_found op.Nop = refl
opcode_found op.Label = refl
opcode_found op.Goto = refl
opcode_found op.Cond = refl
opcode_found op.Switch = refl
opcode_found op.ReturnVoid = refl
opcode_found op.Return = refl
opcode_found op.Copy = refl
opcode_found op.Unary = refl
opcode_found op.Convert = refl
opcode_found op.Binary = refl
opcode_found op.Load = refl
opcode_found op.Store = refl
opcode_found op.CopyStruct = refl
opcode_found op.CallVoid = refl
opcode_found op.Call = refl
opcode_found op.Putchar = refl
opcode_found op.GetcharVoid = refl
opcode_found op.Getchar = refl
opcode_found op.Exit = refl

pub opcode_rows : IsTable opcode_code opcode_table
opcode_rows = record { rows = (refl, (refl, (refl, (refl, (refl, (refl, (refl, (refl, (refl, (refl, (refl, (refl, (refl, (refl, (refl, (refl, (refl, (refl, (refl, (refl, tt)))))))))))))))))))); found = opcode_found }

binary_found : (x : BinaryOp) → pick (binary_code x) binary_table ≡ Some x
binary_found binary.Add = refl
binary_found binary.Sub = refl
binary_found binary.Mul = refl
binary_found binary.Div = refl
binary_found binary.Rem = refl
binary_found binary.And = refl
binary_found binary.Or = refl
binary_found binary.Xor = refl
binary_found binary.Shl = refl
binary_found binary.Shr = refl
binary_found binary.Eq = refl
binary_found binary.Ne = refl
binary_found binary.Lt = refl
binary_found binary.Le = refl
binary_found binary.Gt = refl
binary_found binary.Ge = refl

pub binary_rows : IsTable binary_code binary_table
binary_rows = record { rows = (refl, (refl, (refl, (refl, (refl, (refl, (refl, (refl, (refl, (refl, (refl, (refl, (refl, (refl, (refl, (refl, tt)))))))))))))))); found = binary_found }

unary_found : (x : UnaryOp) → pick (unary_code x) unary_table ≡ Some x
unary_found unary.Neg = refl
unary_found unary.Not = refl

pub unary_rows : IsTable unary_code unary_table
unary_rows = record { rows = (refl, (refl, tt)); found = unary_found }

type_found : (x : ScalarType) → pick (type_code x) type_table ≡ Some x
type_found scalar.Int = refl
type_found scalar.UnsignedInt = refl
type_found scalar.LongInt = refl
type_found scalar.LongUnsignedInt = refl

pub type_rows : IsTable type_code type_table
type_rows = record { rows = (refl, (refl, (refl, (refl, tt)))); found = type_found }

element_found : (x : ElementType) → pick (element_code x) element_table ≡ Some x
element_found (element.Scalar scalar.Int) = refl
element_found (element.Scalar scalar.UnsignedInt) = refl
element_found (element.Scalar scalar.LongInt) = refl
element_found (element.Scalar scalar.LongUnsignedInt) = refl
element_found element.UnsignedChar = refl

pub element_rows : IsTable element_code element_table
element_rows = record { rows = (refl, (refl, (refl, (refl, (refl, tt))))); found = element_found }

result_found : (x : ResultType) → pick (result_code x) result_table ≡ Some x
result_found returned.Void = refl
result_found (returned.Scalar scalar.Int) = refl
result_found (returned.Scalar scalar.UnsignedInt) = refl
result_found (returned.Scalar scalar.LongInt) = refl
result_found (returned.Scalar scalar.LongUnsignedInt) = refl

pub result_rows : IsTable result_code result_table
result_rows = record { rows = (refl, (refl, (refl, (refl, (refl, tt))))); found = result_found }

linkage_found : (x : Linkage) → pick (linkage_code x) linkage_table ≡ Some x
linkage_found linkage.Extern = refl
linkage_found linkage.Strong = refl
linkage_found linkage.Weak = refl
linkage_found linkage.Static = refl

pub linkage_rows : IsTable linkage_code linkage_table
linkage_rows = record { rows = (refl, (refl, (refl, (refl, tt)))); found = linkage_found }

flag_found : (x : Bool) → pick (flag_code x) flag_table ≡ Some x
flag_found false = refl
flag_found true = refl

pub flag_rows : IsTable flag_code flag_table
flag_rows = record { rows = (refl, (refl, tt)); found = flag_found }
