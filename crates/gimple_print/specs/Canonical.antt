-- The one canonical text of a module: structs, arrays, functions, one item after the other, each in whole lines.
use Rattle.std.specs.Prelude.{ℕ, ℤ, List, [], ◌∷◌, take, drop, if◌then◌else◌, codes, decimal}
use Rattle.std.specs.List.{flat_map, join_by}
use Rattle.std.specs.Fmt.{signed_decimal}
use Rattle.gimple_ir.specs.declared.types.Field.{Field}
use Rattle.gimple_ir.specs.declared.types.StructDef.{StructDef}
use Rattle.gimple_ir.specs.declared.types.Variable.{Variable}
use Rattle.gimple_ir.specs.declared.types.Array.{Array}
use Rattle.gimple_ir.specs.declared.types.Function.{Function}
use Rattle.gimple_ir.specs.declared.types.Module.{Module}
use Rattle.gimple_ir.specs.Checks.{is_extern}
use Rattle.gimple_print.specs.Words.{◌⧺◌, scalar_text, element_text, result_text, linkage_text}
use Rattle.gimple_print.specs.Places.{declaration_text}
use Rattle.gimple_print.specs.Statements.{names_in, line_text}

-- ---- structs

abbrev pub field_text : Field → List ℕ
field_text field = codes " " ⧺ scalar_text field.ty ⧺ codes " " ⧺ field.name ⧺ codes ";"

abbrev pub struct_text : StructDef → List ℕ
struct_text s = codes "struct " ⧺ s.name ⧺ codes " {" ⧺ flat_map field_text s.fields ⧺ codes " };\n"

-- ---- arrays

-- the initial values that are there, without suffix
abbrev pub initial_text : List ℤ → List ℕ
initial_text [] = []
initial_text (z ∷ zs) = codes " = {" ⧺ join_by signed_decimal (codes ", ") (z ∷ zs) ⧺ codes "}"

-- the name, and the length in elements
abbrev pub declarator_text : Array → List ℕ
declarator_text a = a.name ⧺ codes "[" ⧺ decimal a.length ⧺ codes "]"

abbrev pub array_text : Array → List ℕ
array_text a =
    linkage_text a.linkage ⧺ element_text a.element ⧺ codes " " ⧺ declarator_text a ⧺ initial_text a.initial ⧺ codes ";\n"

-- ---- functions

abbrev pub parameters_text : List StructDef → List Variable → List ℕ
parameters_text structs parameters = join_by (declaration_text structs) (codes ", ") parameters

-- linkage, result, name and parameters
abbrev pub head_text : List StructDef → Function → List ℕ
head_text structs f =
    linkage_text f.linkage ⧺ result_text f.result ⧺ codes " " ⧺ f.name ⧺ codes " ("
    ⧺ parameters_text structs (take f.parameters f.variables) ⧺ codes ")"

abbrev pub local_text : List StructDef → Variable → List ℕ
local_text structs v = codes "  " ⧺ declaration_text structs v ⧺ codes ";\n"

-- what follows the head of a definition: locals and statements, one on each line
abbrev pub body_text : Module → Function → List ℕ
body_text m f =
    codes "\n{\n" ⧺ flat_map (local_text m.structs) (drop f.parameters f.variables)
    ⧺ flat_map (line_text (names_in m f)) f.body ⧺ codes "}\n"

abbrev pub function_text : Module → Function → List ℕ
function_text m f = head_text m.structs f ⧺ (if is_extern f.linkage then codes ";\n" else body_text m f)

-- ---- modules

abbrev pub text_of : Module → List ℕ
text_of m =
    flat_map struct_text m.structs ⧺ flat_map array_text m.arrays ⧺ flat_map (function_text m) m.functions
