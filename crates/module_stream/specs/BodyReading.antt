-- Reading a body from left to right, up to the first fault.
use Rattle.std.specs.Prelude.{ℕ, ◌==◌, List, Option, Some, None, Result, Err, if◌then◌else◌}
use Rattle.cursors.specs.Cursor.{Cursor, offset_of}
use Rattle.gimple_ir.specs.Values.{modulus, from_residue, value_of}
use Rattle.gimple_ir.specs.declared.types.ScalarType.{ScalarType}
use Rattle.gimple_ir.specs.declared.types.Operand.{Operand}
use Rattle.gimple_ir.specs.declared.types.Operand.TheVariants.{Component, Literal}
use Rattle.gimple_ir.specs.declared.types.Arg.{Arg}
use Rattle.gimple_ir.specs.declared.types.Arg.TheVariants.{One, Whole}
use Rattle.gimple_ir.specs.declared.types.Case.{Case}
use Rattle.gimple_ir.specs.declared.types.Value.{Value}
use Rattle.gimple_ir.specs.declared.types.Statement.{Statement}
use Rattle.gimple_ir.specs.declared.types.Statement.TheVariants.{Nop, Label, Goto, Cond, Switch, ReturnVoid, Return, Copy, Unary, Convert, Binary, Load, Store, CopyStruct, Call, Putchar, Getchar, Exit}
use Rattle.module_stream.specs.declared.bounds.BodyBounds.{BodyBounds}
use Rattle.module_stream.specs.declared.codes.Opcode.{Opcode}
use Rattle.module_stream.specs.declared.codes.Opcode.TheVariants as op
use Rattle.module_stream.specs.Codes.{opcode_table, binary_table, unary_table, type_table}
use Rattle.module_stream.specs.Bodies.{component_count, type_of}
use Rattle.module_stream.specs.Readers.{◌>>=◌, byte, number_below, pick, coded, both, depends, made, nothing, counted, whole}

abbrev pub component_at : BodyBounds → Cursor → Result (ℕ × Cursor) ℕ
component_at b = number_below (component_count b)

-- a residue below 2^width
unfoldable pub value_at : ScalarType → Cursor → Result (Value × Cursor) ℕ
value_at ty = made (λ n. value_of ty (from_residue ty n)) (number_below (modulus ty))

-- a type's code, and a residue of the type
unfoldable pub typed_value_at : Cursor → Result (Value × Cursor) ℕ
typed_value_at = made (λ x. x.1) (depends (coded type_table) value_at)

abbrev pub literal_by : ℕ → Option ScalarType → Cursor → Result (Operand × Cursor) ℕ
literal_by offset None c = Err offset
literal_by offset (Some ty) c = made (λ v. Literal v) (value_at ty) c

-- an operand whose first byte, at the offset, was k
unfoldable pub operand_from : BodyBounds → ℕ → ℕ → Cursor → Result (Operand × Cursor) ℕ
operand_from b offset k c =
    if k == 0 then made (λ i. Component i) (component_at b) c else literal_by offset (pick k type_table) c

unfoldable pub operand_at : BodyBounds → Cursor → Result (Operand × Cursor) ℕ
operand_at b c = byte c >>= λ k. operand_from b (offset_of c) k.0 k.1

unfoldable pub arg_at : BodyBounds → Cursor → Result (Arg × Cursor) ℕ
arg_at b c =
    byte c >>= λ k. if k.0 == 6 then made (λ v. Whole v) (number_below b.variables) k.1
    else made (λ x. One x) (operand_from b (offset_of c) k.0) k.1

unfoldable pub case_at : BodyBounds → ScalarType → Cursor → Result (Case × Cursor) ℕ
case_at b ty = made (λ x. record { value = x.0; label = x.1 }) (both (value_at ty) (number_below b.labels))

-- what stands after an opcode
unfoldable pub fields_at : BodyBounds → Opcode → Cursor → Result (Statement × Cursor) ℕ
fields_at b op.Nop c = nothing Nop c
fields_at b op.Label c = made (λ l. Label l) (number_below b.labels) c
fields_at b op.Goto c = made (λ l. Goto l) (number_below b.labels) c
fields_at b op.Cond c =
    made (λ x. Cond x.0 x.1.0 x.1.1.0 x.1.1.1.0 x.1.1.1.1)
    (both (coded binary_table) (both (operand_at b) (both (operand_at b) (both (number_below b.labels) (number_below b.labels))))) c
fields_at b op.Switch c =
    made (λ x. Switch x.0 x.1.0 x.1.1)
    (depends (operand_at b) (λ x. both (counted (case_at b (type_of b x))) (number_below b.labels))) c
fields_at b op.ReturnVoid c = nothing ReturnVoid c
fields_at b op.Return c = made (λ x. Return x) (operand_at b) c
fields_at b op.Copy c = made (λ x. Copy x.0 x.1) (both (component_at b) (operand_at b)) c
fields_at b op.Unary c =
    made (λ x. Unary x.0 x.1.0 x.1.1) (both (component_at b) (both (coded unary_table) (operand_at b))) c
fields_at b op.Convert c = made (λ x. Convert x.0 x.1) (both (component_at b) (operand_at b)) c
fields_at b op.Binary c =
    made (λ x. Binary x.0 x.1.0 x.1.1.0 x.1.1.1)
    (both (component_at b) (both (coded binary_table) (both (operand_at b) (operand_at b)))) c
fields_at b op.Load c =
    made (λ x. Load x.0 x.1.0 x.1.1) (both (component_at b) (both (number_below b.arrays) (operand_at b))) c
fields_at b op.Store c =
    made (λ x. Store x.0 x.1.0 x.1.1) (both (number_below b.arrays) (both (operand_at b) (operand_at b))) c
fields_at b op.CopyStruct c =
    made (λ x. CopyStruct x.0 x.1) (both (number_below b.variables) (number_below b.variables)) c
fields_at b op.CallVoid c = made (λ x. Call None x.0 x.1) (both (number_below b.functions) (counted (arg_at b))) c
fields_at b op.Call c =
    made (λ x. Call (Some x.0) x.1.0 x.1.1) (both (component_at b) (both (number_below b.functions) (counted (arg_at b)))) c
fields_at b op.Putchar c = made (λ x. Putchar x) (operand_at b) c
fields_at b op.GetcharVoid c = nothing (Getchar None) c
fields_at b op.Getchar c = made (λ x. Getchar (Some x)) (component_at b) c
fields_at b op.Exit c = made (λ x. Exit x) (operand_at b) c

unfoldable pub statement_at : BodyBounds → Cursor → Result (Statement × Cursor) ℕ
statement_at b c = coded opcode_table c >>= λ o. fields_at b o.0 o.1

-- the statements that all of the bytes spell, or the offset of the first byte of the first bad field
unfoldable pub read_body : BodyBounds → List ℕ → Result (List Statement) ℕ
read_body b bytes = whole (counted (statement_at b)) bytes
