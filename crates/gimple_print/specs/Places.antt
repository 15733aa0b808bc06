-- How the variables of a function and their components are written. A component is a scalar variable, or a field of a
-- struct variable.
use Rattle.std.specs.Prelude.{ℕ, List, [], ◌∷◌, map, slice_get, codes}
use Rattle.std.specs.List.{flat_map}
use Rattle.std.specs.Option.{option_map_or}
use Rattle.gimple_ir.specs.declared.types.ScalarType.{ScalarType}
use Rattle.gimple_ir.specs.declared.types.VarType.{VarType}
use Rattle.gimple_ir.specs.declared.types.VarType.TheVariants.{Scalar, Struct}
use Rattle.gimple_ir.specs.declared.types.Field.{Field}
use Rattle.gimple_ir.specs.declared.types.StructDef.{StructDef}
use Rattle.gimple_ir.specs.declared.types.Variable.{Variable}
use Rattle.gimple_print.specs.declared.places.Place.{Place}
use Rattle.gimple_print.specs.Words.{◌⧺◌, scalar_text}

-- ---- declarations

abbrev pub struct_name : List StructDef → ℕ → List ℕ
struct_name structs n = option_map_or (λ s. s.name) (slice_get structs n) []

abbrev pub type_text : List StructDef → VarType → List ℕ
type_text structs (Scalar ty) = scalar_text ty
type_text structs (Struct n) = codes "struct " ⧺ struct_name structs n

-- its type and its name
abbrev pub declaration_text : List StructDef → Variable → List ℕ
declaration_text structs v = type_text structs v.ty ⧺ codes " " ⧺ v.name

-- ---- components

-- the place of a component: its text and its type
abbrev pub place : List ℕ → ScalarType → Place
place text ty = record { text = text; ty = ty }

-- the field of the struct variable that has this name
abbrev pub field_place : List ℕ → Field → Place
field_place name field = place (name ⧺ codes "." ⧺ field.name) field.ty

abbrev pub fields_of : List StructDef → ℕ → List Field
fields_of structs n = option_map_or (λ s. s.fields) (slice_get structs n) []

-- one place for a scalar variable, and for a struct variable one for each field
abbrev pub places_by : List StructDef → List ℕ → VarType → List Place
places_by structs name (Scalar ty) = place name ty ∷ []
places_by structs name (Struct n) = map (field_place name) (fields_of structs n)

abbrev pub variable_places : List StructDef → Variable → List Place
variable_places structs v = places_by structs v.name v.ty

-- the place of each component: those of the first variable first
abbrev pub places_of : List StructDef → List Variable → List Place
places_of structs variables = flat_map (variable_places structs) variables
