-- The canonical text of each statement. Statements have numbers where a text has names: here are the names, as lists,
-- and a number that names nothing is written as nothing. The code looks up components in a table of their places.
use Rattle.std.specs.Prelude.{ℕ, List, [], map, slice_get, Option, Some, None, codes}
use Rattle.std.specs.List.{flat_map, join_by}
use Rattle.std.specs.Option.{option_map_or}
use Rattle.gimple_ir.specs.declared.types.BinaryOp.{BinaryOp}
use Rattle.gimple_ir.specs.declared.types.Operand.{Operand}
use Rattle.gimple_ir.specs.declared.types.Operand.TheVariants.{Component, Literal}
use Rattle.gimple_ir.specs.declared.types.Arg.{Arg}
use Rattle.gimple_ir.specs.declared.types.Arg.TheVariants.{One, Whole}
use Rattle.gimple_ir.specs.declared.types.Case.{Case}
use Rattle.gimple_ir.specs.declared.types.Function.{Function}
use Rattle.gimple_ir.specs.declared.types.Module.{Module}
use Rattle.gimple_ir.specs.declared.types.Statement.{Statement}
use Rattle.gimple_ir.specs.declared.types.Statement.TheVariants.{Nop, Label, Goto, Cond, Switch, ReturnVoid, Return, Copy, Unary, Convert, Binary, Load, Store, CopyStruct, Call, Putchar, Getchar, Exit}
use Rattle.gimple_print.specs.declared.places.Place.{Place}
use Rattle.gimple_print.specs.Words.{◌⧺◌, scalar_text, unary_text, binary_text, literal_text}
use Rattle.gimple_print.specs.Places.{places_of}

-- what the numbers in the statements of a function name
pub record Names : Type 0 where
  pub places : List Place
  pub variables : List (List ℕ)
  pub labels : List (List ℕ)
  pub arrays : List (List ℕ)
  pub functions : List (List ℕ)

abbrev pub names_in : Module → Function → Names
names_in m f = record {
  places = places_of m.structs f.variables;
  variables = map (λ v. v.name) f.variables;
  labels = f.labels;
  arrays = map (λ a. a.name) m.arrays;
  functions = map (λ g. g.name) m.functions;
}

-- ---- names

-- the name at a place of the list
abbrev pub name_at : List (List ℕ) → ℕ → List ℕ
name_at names n = option_map_or (λ name. name) (slice_get names n) []

abbrev pub component_text : Names → ℕ → List ℕ
component_text names x = option_map_or (λ place. place.text) (slice_get names.places x) []

-- the text of a component's type
abbrev pub component_type_text : Names → ℕ → List ℕ
component_type_text names x = option_map_or (λ place. scalar_text place.ty) (slice_get names.places x) []

-- ---- parts of statements

abbrev pub operand_text : Names → Operand → List ℕ
operand_text names (Component x) = component_text names x
operand_text names (Literal value) = literal_text value

abbrev pub operation_text : Names → BinaryOp → Operand → Operand → List ℕ
operation_text names op a b =
    operand_text names a ⧺ codes " " ⧺ binary_text op ⧺ codes " " ⧺ operand_text names b

-- what an assignment begins with, if the statement assigns
abbrev pub target_text : Names → Option ℕ → List ℕ
target_text names None = []
target_text names (Some x) = component_text names x ⧺ codes " = "

abbrev pub argument_text : Names → Arg → List ℕ
argument_text names (One a) = operand_text names a
argument_text names (Whole v) = name_at names.variables v

abbrev pub arguments_text : Names → List Arg → List ℕ
arguments_text names args = join_by (argument_text names) (codes ", ") args

-- where a condition goes that is met, and one that is not
abbrev pub branches_text : Names → ℕ → ℕ → List ℕ
branches_text names met missed =
    codes "goto " ⧺ name_at names.labels met ⧺ codes "; else goto " ⧺ name_at names.labels missed ⧺ codes ";"

abbrev pub case_text : Names → Case → List ℕ
case_text names c = codes ", case " ⧺ literal_text c.value ⧺ codes ": " ⧺ name_at names.labels c.label

-- where a switch goes
abbrev pub choices_text : Names → List Case → ℕ → List ℕ
choices_text names cases otherwise =
    codes "<default: " ⧺ name_at names.labels otherwise ⧺ flat_map (case_text names) cases ⧺ codes ">;"

-- ---- statements

abbrev pub statement_text : Names → Statement → List ℕ
statement_text names Nop = codes ";"
statement_text names (Label l) = name_at names.labels l ⧺ codes ":"
statement_text names (Goto l) = codes "goto " ⧺ name_at names.labels l ⧺ codes ";"
statement_text names (Cond op a b met missed) =
    codes "if (" ⧺ operation_text names op a b ⧺ codes ") " ⧺ branches_text names met missed
statement_text names (Switch a cases otherwise) =
    codes "switch (" ⧺ operand_text names a ⧺ codes ") " ⧺ choices_text names cases otherwise
statement_text names ReturnVoid = codes "return;"
statement_text names (Return a) = codes "return " ⧺ operand_text names a ⧺ codes ";"
statement_text names (Copy to a) = component_text names to ⧺ codes " = " ⧺ operand_text names a ⧺ codes ";"
statement_text names (Unary to op a) =
    component_text names to ⧺ codes " = " ⧺ unary_text op ⧺ operand_text names a ⧺ codes ";"
statement_text names (Convert to a) =
    component_text names to ⧺ codes " = (" ⧺ component_type_text names to ⧺ codes ") " ⧺ operand_text names a ⧺ codes ";"
statement_text names (Binary to op a b) =
    component_text names to ⧺ codes " = " ⧺ operation_text names op a b ⧺ codes ";"
statement_text names (Load to array a) =
    component_text names to ⧺ codes " = " ⧺ name_at names.arrays array ⧺ codes "[" ⧺ operand_text names a ⧺ codes "];"
statement_text names (Store array a b) =
    name_at names.arrays array ⧺ codes "[" ⧺ operand_text names a ⧺ codes "] = " ⧺ operand_text names b ⧺ codes ";"
statement_text names (CopyStruct to from) =
    name_at names.variables to ⧺ codes " = " ⧺ name_at names.variables from ⧺ codes ";"
statement_text names (Call to f args) =
    target_text names to ⧺ name_at names.functions f ⧺ codes " (" ⧺ arguments_text names args ⧺ codes ");"
statement_text names (Putchar a) = codes "__builtin_putchar (" ⧺ operand_text names a ⧺ codes ");"
statement_text names (Getchar to) = target_text names to ⧺ codes "__builtin_getchar ();"
statement_text names (Exit a) = codes "__builtin_exit (" ⧺ operand_text names a ⧺ codes ");"

-- a label stands at the line's begin, all else behind two spaces
abbrev pub indent_text : Statement → List ℕ
indent_text (Label l) = []
indent_text _ = codes "  "

abbrev pub line_text : Names → Statement → List ℕ
line_text names st = indent_text st ⧺ statement_text names st ⧺ codes "\n"
