-- Reading declarations from left to right, up to the first fault.
use Rattle.std.specs.Prelude.{ℕ, ◌==◌, ◌-◌, ◌^◌, List, [], ◌∷◌, ◌++◌, length, Result, Bool, not, ℤ, if◌then◌else◌}
use Rattle.cursors.specs.Cursor.{Cursor, offset_of}
use Rattle.gimple_ir.specs.Names.{is_identifier}
use Rattle.gimple_ir.specs.Checks.{is_extern}
use Rattle.gimple_ir.specs.declared.types.ElementType.{ElementType}
use Rattle.gimple_ir.specs.declared.types.VarType.{VarType}
use Rattle.gimple_ir.specs.declared.types.VarType.TheVariants as variable
use Rattle.gimple_ir.specs.declared.types.Field.{Field}
use Rattle.gimple_ir.specs.declared.types.StructDef.{StructDef}
use Rattle.gimple_ir.specs.declared.types.Array.{Array}
use Rattle.gimple_ir.specs.declared.types.Variable.{Variable}
use Rattle.gimple_ir.specs.declared.types.Function.{Function}
use Rattle.gimple_ir.specs.declared.types.Module.{Module}
use Rattle.module_stream.specs.Codes.{type_table, element_table, result_table, linkage_table}
use Rattle.module_stream.specs.Fields.{element_modulus, element_from}
use Rattle.module_stream.specs.Declarations.{types_of}
use Rattle.module_stream.specs.Readers.{◌>>=◌, byte, number_below, text, passing, pick, known, coded, both, depends, made, nothing, repeated, counted, after, whole}

-- ---- names and structs

-- a name of an item, a field, a variable or a label
unfoldable pub name_at : Cursor → Result (List ℕ × Cursor) ℕ
name_at = passing is_identifier text

unfoldable pub field_at : Cursor → Result (Field × Cursor) ℕ
field_at = made (λ x. record { name = x.1; ty = x.0 }) (both (coded type_table) name_at)

unfoldable pub struct_at : Cursor → Result (StructDef × Cursor) ℕ
struct_at = made (λ x. record { name = x.0; fields = x.1 }) (both name_at (counted field_at))

-- ---- arrays

unfoldable pub element_at : ElementType → Cursor → Result (ℤ × Cursor) ℕ
element_at e = made (element_from e) (number_below (element_modulus e))

-- the last initial value, which isn't 0
unfoldable pub last_element_at : ElementType → Cursor → Result (ℤ × Cursor) ℕ
last_element_at e = made (element_from e) (passing (λ n. not (n == 0)) (number_below (element_modulus e)))

unfoldable pub elements_at : ElementType → ℕ → Cursor → Result (List ℤ × Cursor) ℕ
elements_at e n c =
    if n == 0 then nothing [] c
    else made (λ x. x.0 ++ x.1 ∷ []) (both (repeated (element_at e) (n - 1)) (last_element_at e)) c

-- an extern array has fewer than one
abbrev pub initial_limit : Bool → ℕ
initial_limit is_declared = if is_declared then 1 else 2 ^ 32

unfoldable pub initial_at : Bool → ElementType → Cursor → Result (List ℤ × Cursor) ℕ
initial_at is_declared e = made (λ x. x.1) (depends (number_below (initial_limit is_declared)) (elements_at e))

unfoldable pub array_at : Cursor → Result (Array × Cursor) ℕ
array_at =
    made (λ x. record { name = x.1.1.0; linkage = x.0; element = x.1.0; length = x.1.1.1.0; initial = x.1.1.1.1 })
    (depends (coded linkage_table) (λ l. depends (coded element_table) (λ e. both name_at (both (number_below (2 ^ 32)) (initial_at (is_extern l) e)))))

-- ---- functions

-- a type of so many structs, whose first byte, at the offset, was k
unfoldable pub var_type_from : ℕ → ℕ → ℕ → Cursor → Result (VarType × Cursor) ℕ
var_type_from structs offset k c =
    if k == 6 then made (λ n. variable.Struct n) (number_below structs) c
    else made (λ ty. variable.Scalar ty) (known offset (pick k type_table)) c

unfoldable pub var_type_at : ℕ → Cursor → Result (VarType × Cursor) ℕ
var_type_at structs c = byte c >>= λ k. var_type_from structs (offset_of c) k.0 k.1

unfoldable pub variable_at : List StructDef → Cursor → Result (Variable × Cursor) ℕ
variable_at structs =
    made (λ x. record { name = x.1; ty = x.0; types = types_of structs x.0 }) (both (var_type_at (length structs)) name_at)

-- all variables, of which the parameters were read, and the labels
unfoldable pub inside_at : List StructDef → Bool → List Variable → Cursor → Result ((List Variable × List (List ℕ)) × Cursor) ℕ
inside_at structs is_declared parameters c =
    if is_declared then nothing (parameters, []) c
    else both (λ d. after parameters (counted (variable_at structs) d)) (counted name_at) c

unfoldable pub function_at : List StructDef → Cursor → Result (Function × Cursor) ℕ
function_at structs =
    made (λ x. record {
      name = x.1.1.0;
      linkage = x.0;
      result = x.1.0;
      parameters = length x.1.1.1.0;
      variables = x.1.1.1.1.0;
      labels = x.1.1.1.1.1;
      body = [];
    })
    (depends (coded linkage_table) (λ l. both (coded result_table) (both name_at (depends (counted (variable_at structs)) (inside_at structs (is_extern l))))))

-- ---- modules

unfoldable pub module_at : Cursor → Result (Module × Cursor) ℕ
module_at =
    made (λ x. record { structs = x.0; arrays = x.1.0; functions = x.1.1 })
    (depends (counted struct_at) (λ structs. both (counted array_at) (counted (function_at structs))))

-- the module that all of the bytes spell, or the offset of the first byte of the first bad field
unfoldable pub read_decls : List ℕ → Result Module ℕ
read_decls bytes = whole module_at bytes
