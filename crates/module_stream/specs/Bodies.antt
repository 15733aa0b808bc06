-- The one spelling of a function's body, and what a body may name.
use Rattle.std.specs.Prelude.{◌≡◌, ℕ, ◌<◌, ◌^◌, List, [], ◌∷◌, ◌++◌, length, Some, None, min, slice_get, unwrap_or}
use Rattle.cursors.specs.Leb128.{uleb_of}
use Rattle.gimple_ir.specs.Values.{IsValue}
use Rattle.gimple_ir.specs.declared.types.ScalarType.{ScalarType}
use Rattle.gimple_ir.specs.declared.types.ScalarType.TheVariants as scalar
use Rattle.gimple_ir.specs.declared.types.Operand.{Operand}
use Rattle.gimple_ir.specs.declared.types.Operand.TheVariants.{Component, Literal}
use Rattle.gimple_ir.specs.declared.types.Arg.{Arg}
use Rattle.gimple_ir.specs.declared.types.Arg.TheVariants.{One, Whole}
use Rattle.gimple_ir.specs.declared.types.Case.{Case}
use Rattle.gimple_ir.specs.declared.types.Statement.{Statement}
use Rattle.gimple_ir.specs.declared.types.Statement.TheVariants.{Nop, Label, Goto, Cond, Switch, ReturnVoid, Return, Copy, Unary, Convert, Binary, Load, Store, CopyStruct, Call, Putchar, Getchar, Exit}
use Rattle.module_stream.specs.declared.bounds.BodyBounds.{BodyBounds}
use Rattle.module_stream.specs.declared.codes.Opcode.{Opcode}
use Rattle.module_stream.specs.declared.codes.Opcode.TheVariants as op
use Rattle.module_stream.specs.Codes.{opcode_code, binary_code, unary_code}
use Rattle.module_stream.specs.Fields.{counted_of, FitsAll, value_bytes, typed_value_of}

-- ---- operands, arguments and cases

-- how many components a body can name: their numbers fit a u32
abbrev pub component_count : BodyBounds → ℕ
component_count b = min (length b.types) (2 ^ 32)

abbrev pub operand_of : Operand → List ℕ
operand_of (Component i) = 0 ∷ uleb_of i
operand_of (Literal v) = typed_value_of v

abbrev pub FitsOperand : BodyBounds → Operand → Type 0
FitsOperand b (Component i) = i < component_count b
FitsOperand b (Literal v) = IsValue v

abbrev pub arg_of : Arg → List ℕ
arg_of (One a) = operand_of a
arg_of (Whole v) = 6 ∷ uleb_of v

abbrev pub FitsArg : BodyBounds → Arg → Type 0
FitsArg b (One a) = FitsOperand b a
FitsArg b (Whole v) = v < b.variables

abbrev pub type_of : BodyBounds → Operand → ScalarType
type_of b (Component i) = unwrap_or (slice_get b.types i) scalar.Int
type_of b (Literal v) = v.ty

abbrev pub case_of : Case → List ℕ
case_of c = value_bytes c.value ++ uleb_of c.label

-- a case of a switch on an operand of the type
pub record FitsCase (b : BodyBounds) (ty : ScalarType) (c : Case) : Type 0 where
  pub type : c.value.ty ≡ ty
  pub value : IsValue c.value
  pub label : c.label < b.labels

-- ---- statements

abbrev pub opcode_of : Statement → Opcode
opcode_of Nop = op.Nop
opcode_of (Label l) = op.Label
opcode_of (Goto l) = op.Goto
opcode_of (Cond o x y met missed) = op.Cond
opcode_of (Switch x cases otherwise) = op.Switch
opcode_of ReturnVoid = op.ReturnVoid
opcode_of (Return x) = op.Return
opcode_of (Copy to x) = op.Copy
opcode_of (Unary to o x) = op.Unary
opcode_of (Convert to x) = op.Convert
opcode_of (Binary to o x y) = op.Binary
opcode_of (Load to array x) = op.Load
opcode_of (Store array x y) = op.Store
opcode_of (CopyStruct s t) = op.CopyStruct
opcode_of (Call None f args) = op.CallVoid
opcode_of (Call (Some to) f args) = op.Call
opcode_of (Putchar x) = op.Putchar
opcode_of (Getchar None) = op.GetcharVoid
opcode_of (Getchar (Some to)) = op.Getchar
opcode_of (Exit x) = op.Exit

-- what stands after the opcode
abbrev pub fields_of : Statement → List ℕ
fields_of Nop = []
fields_of (Label l) = uleb_of l
fields_of (Goto l) = uleb_of l
fields_of (Cond o x y met missed) = binary_code o ∷ (operand_of x ++ (operand_of y ++ (uleb_of met ++ uleb_of missed)))
fields_of (Switch x cases otherwise) = operand_of x ++ (counted_of case_of cases ++ uleb_of otherwise)
fields_of ReturnVoid = []
fields_of (Return x) = operand_of x
fields_of (Copy to x) = uleb_of to ++ operand_of x
fields_of (Unary to o x) = uleb_of to ++ (unary_code o ∷ operand_of x)
fields_of (Convert to x) = uleb_of to ++ operand_of x
fields_of (Binary to o x y) = uleb_of to ++ (binary_code o ∷ (operand_of x ++ operand_of y))
fields_of (Load to array x) = uleb_of to ++ (uleb_of array ++ operand_of x)
fields_of (Store array x y) = uleb_of array ++ (operand_of x ++ operand_of y)
fields_of (CopyStruct s t) = uleb_of s ++ uleb_of t
fields_of (Call None f args) = uleb_of f ++ counted_of arg_of args
fields_of (Call (Some to) f args) = uleb_of to ++ (uleb_of f ++ counted_of arg_of args)
fields_of (Putchar x) = operand_of x
fields_of (Getchar None) = []
fields_of (Getchar (Some to)) = uleb_of to
fields_of (Exit x) = operand_of x

-- its numbers name what is there, its literals are in range, and its lists have counts that fit a u32
abbrev pub Fits : BodyBounds → Statement → Type 0
Fits b Nop = Unit {0}
Fits b (Label l) = l < b.labels
Fits b (Goto l) = l < b.labels
Fits b (Cond o x y met missed) = FitsOperand b x × FitsOperand b y × (met < b.labels) × (missed < b.labels)
Fits b (Switch x cases otherwise) = FitsOperand b x × FitsAll (FitsCase b (type_of b x)) cases × (otherwise < b.labels)
Fits b ReturnVoid = Unit {0}
Fits b (Return x) = FitsOperand b x
Fits b (Copy to x) = (to < component_count b) × FitsOperand b x
Fits b (Unary to o x) = (to < component_count b) × FitsOperand b x
Fits b (Convert to x) = (to < component_count b) × FitsOperand b x
Fits b (Binary to o x y) = (to < component_count b) × FitsOperand b x × FitsOperand b y
Fits b (Load to array x) = (to < component_count b) × (array < b.arrays) × FitsOperand b x
Fits b (Store array x y) = (array < b.arrays) × FitsOperand b x × FitsOperand b y
Fits b (CopyStruct s t) = (s < b.variables) × (t < b.variables)
Fits b (Call None f args) = (f < b.functions) × FitsAll (FitsArg b) args
Fits b (Call (Some to) f args) = (to < component_count b) × (f < b.functions) × FitsAll (FitsArg b) args
Fits b (Putchar x) = FitsOperand b x
Fits b (Getchar None) = Unit {0}
Fits b (Getchar (Some to)) = to < component_count b
Fits b (Exit x) = FitsOperand b x

abbrev pub statement_of : Statement → List ℕ
statement_of s = opcode_code (opcode_of s) ∷ fields_of s

abbrev pub body_of : List Statement → List ℕ
body_of statements = counted_of statement_of statements

-- the statements can stand in a body within these bounds
abbrev pub FitsBody : BodyBounds → List Statement → Type 0
FitsBody b statements = FitsAll (Fits b) statements
