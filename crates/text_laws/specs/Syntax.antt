-- The syntax that the canonical text of a module spells: its items with names in place of numbers, each item and statement in
-- its line of the text.
use Rattle.std.specs.Prelude.{ℕ, ◌+◌, ℤ, pos, List, [], ◌∷◌, ◌++◌, length, map, take, drop, slice_get, Option, Some, None, codes, if◌then◌else◌, unsigned_abs, int_lt}
use Rattle.std.specs.List.{flat_map}
use Rattle.std.specs.Option.{option_map_or}
use Rattle.gimple_ir.specs.declared.types.ScalarType.{ScalarType}
use Rattle.gimple_ir.specs.declared.types.ScalarType.TheVariants.{Int, UnsignedInt, LongInt, LongUnsignedInt}
use Rattle.gimple_ir.specs.declared.types.VarType.{VarType}
use Rattle.gimple_ir.specs.declared.types.VarType.TheVariants as variable
use Rattle.gimple_ir.specs.declared.types.UnaryOp.{UnaryOp}
use Rattle.gimple_ir.specs.declared.types.UnaryOp.TheVariants.{Neg, Not}
use Rattle.gimple_ir.specs.declared.types.Linkage.{Linkage}
use Rattle.gimple_ir.specs.declared.types.Linkage.TheVariants.{Extern}
use Rattle.gimple_ir.specs.declared.types.Value.{Value}
use Rattle.gimple_ir.specs.declared.types.Operand.{Operand}
use Rattle.gimple_ir.specs.declared.types.Operand.TheVariants as operand
use Rattle.gimple_ir.specs.declared.types.Arg.{Arg}
use Rattle.gimple_ir.specs.declared.types.Arg.TheVariants as argument
use Rattle.gimple_ir.specs.declared.types.Case.{Case}
use Rattle.gimple_ir.specs.declared.types.Statement.{Statement}
use Rattle.gimple_ir.specs.declared.types.Statement.TheVariants.{Nop, Label, Goto, Cond, Switch, ReturnVoid, Return, Copy, Unary, Convert, Binary, Load, Store, CopyStruct, Call, Putchar, Getchar, Exit}
use Rattle.gimple_ir.specs.declared.types.Field.{Field}
use Rattle.gimple_ir.specs.declared.types.StructDef.{StructDef}
use Rattle.gimple_ir.specs.declared.types.Variable.{Variable}
use Rattle.gimple_ir.specs.declared.types.Array.{Array}
use Rattle.gimple_ir.specs.declared.types.Function.{Function}
use Rattle.gimple_ir.specs.declared.types.Module.{Module}
use Rattle.gimple_ir.specs.Checks.{is_extern}
use Rattle.gimple_tokens.specs.declared.token.Suffix.{Suffix}
use Rattle.gimple_tokens.specs.declared.token.Suffix.TheVariants.{Plain, U, L, Ul}
use Rattle.gimple_grammar.specs.declared.syntax.Literal.{Literal as LiteralText}
use Rattle.gimple_grammar.specs.declared.syntax.Place.{Place}
use Rattle.gimple_grammar.specs.declared.syntax.Operand.{Operand as OperandText}
use Rattle.gimple_grammar.specs.declared.syntax.Operand.TheVariants as operand_text
use Rattle.gimple_grammar.specs.declared.syntax.Right.{Right}
use Rattle.gimple_grammar.specs.declared.syntax.Right.TheVariants as right
use Rattle.gimple_grammar.specs.declared.syntax.Tail.TheVariants as tail
use Rattle.gimple_grammar.specs.declared.syntax.CaseLabel.{CaseLabel}
use Rattle.gimple_grammar.specs.declared.syntax.Form.{Form}
use Rattle.gimple_grammar.specs.declared.syntax.Form.TheVariants as form
use Rattle.gimple_grammar.specs.declared.syntax.Line.{Line}
use Rattle.gimple_grammar.specs.declared.syntax.«Type».{«Type» as TypeText}
use Rattle.gimple_grammar.specs.declared.syntax.«Type».TheVariants as type_text
use Rattle.gimple_grammar.specs.declared.syntax.Declared.{Declared}
use Rattle.gimple_grammar.specs.declared.syntax.FieldText.{FieldText}
use Rattle.gimple_grammar.specs.declared.syntax.StructText.{StructText}
use Rattle.gimple_grammar.specs.declared.syntax.ArrayText.{ArrayText}
use Rattle.gimple_grammar.specs.declared.syntax.FunctionText.{FunctionText}
use Rattle.gimple_grammar.specs.declared.syntax.Parameters.{Parameters}
use Rattle.gimple_grammar.specs.declared.syntax.Parameters.TheVariants as parameters
use Rattle.gimple_grammar.specs.declared.syntax.Body.{Body}
use Rattle.gimple_grammar.specs.declared.syntax.Item.{Item}
use Rattle.gimple_grammar.specs.declared.syntax.Item.TheVariants as item
use Rattle.gimple_grammar.specs.declared.syntax.ItemLine.{ItemLine}
use Rattle.gimple_print.specs.Statements.{name_at}

-- ---- literals

abbrev pub suffix_of : ScalarType → Suffix
suffix_of Int = Plain
suffix_of UnsignedInt = U
suffix_of LongInt = L
suffix_of LongUnsignedInt = Ul

abbrev pub number_of : ℤ → Suffix → LiteralText
number_of z suffix = record { negative = int_lt z (pos 0); number = unsigned_abs z; suffix = suffix }

abbrev pub literal_of : Value → LiteralText
literal_of v = number_of v.num (suffix_of v.ty)

-- an initial value has no suffix
abbrev pub initial_of : ℤ → LiteralText
initial_of z = number_of z Plain

-- ---- what the numbers in a function name, and its components' types

pub record Names : Type 0 where
  pub places : List Place
  pub types : List ScalarType
  pub variables : List (List ℕ)
  pub labels : List (List ℕ)
  pub arrays : List (List ℕ)
  pub functions : List (List ℕ)

abbrev pub fields_of : List StructDef → ℕ → List Field
fields_of structs n = option_map_or (λ s. s.fields) (slice_get structs n) []

abbrev pub place_of : List ℕ → Option (List ℕ) → Place
place_of name field = record { name = name; field = field }

abbrev pub places_by : List StructDef → List ℕ → VarType → List Place
places_by structs name (variable.Scalar ty) = place_of name None ∷ []
places_by structs name (variable.Struct n) = map (λ field. place_of name (Some field.name)) (fields_of structs n)

abbrev pub places_of : List StructDef → Variable → List Place
places_of structs v = places_by structs v.name v.ty

abbrev pub types_by : List StructDef → VarType → List ScalarType
types_by structs (variable.Scalar ty) = ty ∷ []
types_by structs (variable.Struct n) = map (λ field. field.ty) (fields_of structs n)

abbrev pub names_in : Module → Function → Names
names_in m f = record {
  places = flat_map (places_of m.structs) f.variables;
  types = flat_map (λ v. types_by m.structs v.ty) f.variables;
  variables = map (λ v. v.name) f.variables;
  labels = f.labels;
  arrays = map (λ a. a.name) m.arrays;
  functions = map (λ g. g.name) m.functions;
}

abbrev pub place_at : Names → ℕ → Place
place_at n x = option_map_or (λ p. p) (slice_get n.places x) (place_of [] None)

abbrev pub type_at : Names → ℕ → ScalarType
type_at n x = option_map_or (λ ty. ty) (slice_get n.types x) Int

-- ---- operands

abbrev pub operand_of : Names → Operand → OperandText
operand_of n (operand.Component x) = operand_text.Place (place_at n x)
operand_of n (operand.Literal v) = operand_text.Literal (literal_of v)

-- a whole struct variable, by its name
abbrev pub whole_of : Names → ℕ → OperandText
whole_of n v = operand_text.Place (place_of (name_at n.variables v) None)

abbrev pub argument_of : Names → Arg → OperandText
argument_of n (argument.One a) = operand_of n a
argument_of n (argument.Whole v) = whole_of n v

-- ---- statements

abbrev pub assigned_by : List ℕ → Option (List ℕ) → Right → Form
assigned_by name None r = form.Named name (tail.Assign r)
assigned_by name (Some field) r = form.Named name (tail.AssignField field r)

abbrev pub assigned : Names → ℕ → Right → Form
assigned n x r = assigned_by (place_at n x).name (place_at n x).field r

abbrev pub unary_of : UnaryOp → OperandText → Right
unary_of Neg a = right.Negate a
unary_of Not a = right.Complement a

abbrev pub case_of : Names → Case → CaseLabel
case_of n c = record { value = literal_of c.value; label = name_at n.labels c.label }

-- a call whose result is assigned or not
abbrev pub called : Names → Option ℕ → List ℕ → List OperandText → Form
called n None name args = form.Named name (tail.Call args)
called n (Some x) name args = assigned n x (right.Call name args)

unfoldable pub form_of : Names → Statement → Form
form_of n Nop = form.Empty
form_of n (Label l) = form.Named (name_at n.labels l) tail.Label
form_of n (Goto l) = form.Goto (name_at n.labels l)
form_of n (Cond op a b met missed) =
    form.If (record { left = operand_of n a; op = op; right = operand_of n b; met = name_at n.labels met; missed = name_at n.labels missed })
form_of n (Switch a cases otherwise) =
    form.Switch (record { on = operand_of n a; otherwise = name_at n.labels otherwise; cases = map (case_of n) cases })
form_of n ReturnVoid = form.Return None
form_of n (Return a) = form.Return (Some (operand_of n a))
form_of n (Copy to a) = assigned n to (right.Value (operand_of n a))
form_of n (Unary to op a) = assigned n to (unary_of op (operand_of n a))
form_of n (Convert to a) = assigned n to (right.Convert (type_at n to) (operand_of n a))
form_of n (Binary to op a b) = assigned n to (right.Binary (record { left = operand_of n a; op = op; right = operand_of n b }))
form_of n (Load to array a) = assigned n to (right.Load (name_at n.arrays array) (operand_of n a))
form_of n (Store array a b) = form.Named (name_at n.arrays array) (tail.Store (operand_of n a) (operand_of n b))
form_of n (CopyStruct to from) = form.Named (name_at n.variables to) (tail.Assign (right.Value (whole_of n from)))
form_of n (Call to f args) = called n to (name_at n.functions f) (map (argument_of n) args)
form_of n (Putchar a) = form.Named (codes "__builtin_putchar") (tail.Call (operand_of n a ∷ []))
form_of n (Getchar to) = called n to (codes "__builtin_getchar") []
form_of n (Exit a) = form.Named (codes "__builtin_exit") (tail.Call (operand_of n a ∷ []))

-- the statements, one on each line, of which the first is this one
abbrev pub lines_from : Names → ℕ → List Statement → List Line
lines_from n line [] = []
lines_from n line (st ∷ body) = record { line = line; form = form_of n st } ∷ lines_from n (line + 1) body

-- ---- items

abbrev pub struct_name : List StructDef → ℕ → List ℕ
struct_name structs n = option_map_or (λ s. s.name) (slice_get structs n) []

abbrev pub type_of : List StructDef → VarType → TypeText
type_of structs (variable.Scalar ty) = type_text.Scalar ty
type_of structs (variable.Struct n) = type_text.Struct (struct_name structs n)

abbrev pub declared_of : List StructDef → Variable → Declared
declared_of structs v = record { ty = type_of structs v.ty; name = v.name }

abbrev pub field_of : Field → FieldText
field_of f = record { ty = f.ty; name = f.name }

abbrev pub struct_of : StructDef → StructText
struct_of s = record { name = s.name; fields = map field_of s.fields }

abbrev pub array_of : Array → ArrayText
array_of a = record { element = a.element; name = a.name; length = a.length; initial = map initial_of a.initial }

abbrev pub array_item : Linkage → ArrayText → Item
array_item Extern a = item.ExternArray a
array_item linkage a = item.Array linkage a

abbrev pub some_parameters : List Declared → Parameters
some_parameters [] = parameters.None
some_parameters (d ∷ ds) = parameters.Some (d ∷ ds)

abbrev pub head_of : List StructDef → Function → FunctionText
head_of structs f = record {
  result = f.result;
  name = f.name;
  parameters = some_parameters (map (declared_of structs) (take f.parameters f.variables));
}

abbrev pub locals_of : Function → List Variable
locals_of f = drop f.parameters f.variables

-- the head stands in this line, the brace in the next, and then a line for each local and each statement
abbrev pub body_of : Module → ℕ → Function → Body
body_of m line f = record {
  locals = map (declared_of m.structs) (locals_of f);
  lines = lines_from (names_in m f) (line + 2 + length (locals_of f)) f.body;
}

abbrev pub function_by : Linkage → FunctionText → Body → Item
function_by Extern head body = item.ExternFunction head
function_by linkage head body = item.Function linkage head body

abbrev pub function_item : Module → ℕ → Function → Item
function_item m line f = function_by f.linkage (head_of m.structs f) (body_of m line f)

-- how many lines a function takes
abbrev pub height_of : Function → ℕ
height_of f = if is_extern f.linkage then 1 else 3 + length (locals_of f) + length f.body

-- ---- modules

abbrev pub at_line : ℕ → Item → ItemLine
at_line line x = record { line = line; item = x }

abbrev pub structs_from : ℕ → List StructDef → List ItemLine
structs_from line [] = []
structs_from line (s ∷ ss) = at_line line (item.Struct (struct_of s)) ∷ structs_from (line + 1) ss

abbrev pub arrays_from : ℕ → List Array → List ItemLine
arrays_from line [] = []
arrays_from line (a ∷ more) = at_line line (array_item a.linkage (array_of a)) ∷ arrays_from (line + 1) more

abbrev pub functions_from : Module → ℕ → List Function → List ItemLine
functions_from m line [] = []
functions_from m line (f ∷ fs) = at_line line (function_item m line f) ∷ functions_from m (line + height_of f) fs

-- structs, arrays and functions, from line 1 on
abbrev pub syntax_of : Module → List ItemLine
syntax_of m =
    structs_from 1 m.structs
    ++ (arrays_from (1 + length m.structs) m.arrays ++ functions_from m (1 + length m.structs + length m.arrays) m.functions)
