-- The one spelling of a module's declarations, and the modules that have one: those without bodies.
use Rattle.std.specs.Prelude.{◌≡◌, ℕ, ◌^◌, ◌<◌, List, [], ◌∷◌, ◌++◌, length, All, map, take, drop, slice_get, Bool, if◌then◌else◌}
use Rattle.std.specs.Option.{option_map_or}
use Rattle.cursors.specs.Leb128.{uleb_of}
use Rattle.gimple_ir.specs.Checks.{is_extern}
use Rattle.gimple_ir.specs.Programs.{IsStatedStruct, IsStatedArray, IsStatedFunction}
use Rattle.gimple_ir.specs.declared.types.ScalarType.{ScalarType}
use Rattle.gimple_ir.specs.declared.types.VarType.{VarType}
use Rattle.gimple_ir.specs.declared.types.VarType.TheVariants as variable
use Rattle.gimple_ir.specs.declared.types.Field.{Field}
use Rattle.gimple_ir.specs.declared.types.StructDef.{StructDef}
use Rattle.gimple_ir.specs.declared.types.Array.{Array}
use Rattle.gimple_ir.specs.declared.types.Variable.{Variable}
use Rattle.gimple_ir.specs.declared.types.Function.{Function}
use Rattle.gimple_ir.specs.declared.types.Module.{Module}
use Rattle.module_stream.specs.Codes.{type_code, element_code, result_code, linkage_code}
use Rattle.module_stream.specs.Fields.{counted_of, FitsAll, text_of, element_of}

-- ---- the spelling

abbrev pub field_of : Field → List ℕ
field_of f = type_code f.ty ∷ text_of f.name

abbrev pub struct_of : StructDef → List ℕ
struct_of s = text_of s.name ++ counted_of field_of s.fields

-- initial values that are missing at the end are 0 and are left out
abbrev pub array_of : Array → List ℕ
array_of a =
    linkage_code a.linkage ∷ (element_code a.element ∷ (text_of a.name ++ (uleb_of a.length ++ counted_of (element_of a.element) a.initial)))

abbrev pub var_type_of : VarType → List ℕ
var_type_of (variable.Scalar ty) = type_code ty ∷ []
var_type_of (variable.Struct n) = 6 ∷ uleb_of n

abbrev pub variable_of : Variable → List ℕ
variable_of v = var_type_of v.ty ++ text_of v.name

abbrev pub parameters_of : Function → List Variable
parameters_of f = take f.parameters f.variables

abbrev pub locals_of : Function → List Variable
locals_of f = drop f.parameters f.variables

-- an extern function has neither locals nor labels
abbrev pub inside_of : Bool → List Variable → List (List ℕ) → List ℕ
inside_of is_declared locals labels =
    if is_declared then [] else counted_of variable_of locals ++ counted_of text_of labels

abbrev pub function_of : Function → List ℕ
function_of f =
    linkage_code f.linkage ∷ (result_code f.result ∷ (text_of f.name ++ (counted_of variable_of (parameters_of f) ++ inside_of (is_extern f.linkage) (locals_of f) f.labels)))

abbrev pub decls_of : Module → List ℕ
decls_of m = counted_of struct_of m.structs ++ (counted_of array_of m.arrays ++ counted_of function_of m.functions)

-- ---- the modules that have one

-- a struct's number names one of so many
abbrev pub NamesStruct : ℕ → VarType → Type 0
NamesStruct count (variable.Scalar ty) = Unit {0}
NamesStruct count (variable.Struct n) = n < count

pub record IsDeclaredStruct (s : StructDef) : Type 0 where
  pub stated : IsStatedStruct s
  pub count : length s.fields < 2 ^ 32

pub record IsDeclaredArray (a : Array) : Type 0 where
  pub stated : IsStatedArray a
  pub count : length a.initial < 2 ^ 32
  pub length : a.length < 2 ^ 32

-- well formed, its numbers and counts fit a u32, and without a body
pub record IsDeclaredFunction (structs : List StructDef) (f : Function) : Type 0 where
  pub stated : IsStatedFunction structs f
  pub known : All (λ v. NamesStruct (length structs) v.ty) f.variables
  pub parameters : f.parameters < 2 ^ 32
  pub locals : length (locals_of f) < 2 ^ 32
  pub labels : length f.labels < 2 ^ 32
  pub body : f.body ≡ []

pub record AreDeclarations (m : Module) : Type 0 where
  pub structs : FitsAll IsDeclaredStruct m.structs
  pub arrays : FitsAll IsDeclaredArray m.arrays
  pub functions : FitsAll (IsDeclaredFunction m.structs) m.functions

-- ---- modules with bodies

-- the function as a declaration of it is written: without its body
abbrev pub without_body : Function → Function
without_body f = record { name = f.name; linkage = f.linkage; result = f.result; parameters = f.parameters; variables = f.variables; labels = f.labels; body = [] }

abbrev pub without_bodies : Module → Module
without_bodies m = record { structs = m.structs; arrays = m.arrays; functions = map without_body m.functions }

pub record HasArrayCounts (a : Array) : Type 0 where
  pub count : length a.initial < 2 ^ 32
  pub length : a.length < 2 ^ 32

pub record HasFunctionCounts (structs : ℕ) (f : Function) : Type 0 where
  pub known : All (λ v. NamesStruct structs v.ty) f.variables
  pub parameters : f.parameters < 2 ^ 32
  pub locals : length (locals_of f) < 2 ^ 32
  pub labels : length f.labels < 2 ^ 32

-- the numbers of a module's declarations: its counts fit a u32, and its structs' numbers name structs
pub record HasCounts (m : Module) : Type 0 where
  pub structs : All (λ s. length s.fields < 2 ^ 32) m.structs
  pub arrays : All HasArrayCounts m.arrays
  pub functions : All (HasFunctionCounts (length m.structs)) m.functions

-- ---- types of components

abbrev pub field_types : List StructDef → ℕ → List ScalarType
field_types structs n = option_map_or (λ s. map (λ field. field.ty) s.fields) (slice_get structs n) []

-- the types of a variable's components
abbrev pub types_of : List StructDef → VarType → List ScalarType
types_of structs (variable.Scalar ty) = ty ∷ []
types_of structs (variable.Struct n) = field_types structs n
