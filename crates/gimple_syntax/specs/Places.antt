-- What the names in a function stand for: components and whole structs among its variables, labels, and the items of the
-- module.
use Rattle.std.specs.Prelude.{ℕ, ◌+◌, List, [], ◌∷◌, length, map, take, sum_by, min, Option, Some, None, nat_le, if◌then◌else◌}
use Rattle.std.specs.List.{position}
use Rattle.std.specs.Option.{option_map_or}
use Rattle.std.specs.Str.{bytes_eq}
use Rattle.gimple_ir.specs.declared.types.ScalarType.{ScalarType}
use Rattle.gimple_ir.specs.declared.types.VarType.{VarType}
use Rattle.gimple_ir.specs.declared.types.VarType.TheVariants as variable
use Rattle.gimple_ir.specs.declared.types.Variable.{Variable}
use Rattle.gimple_ir.specs.declared.types.Operand.TheVariants.{Component, Literal}
use Rattle.gimple_grammar.specs.declared.syntax.Place.{Place}
use Rattle.gimple_grammar.specs.declared.syntax.Operand.{Operand as Written}
use Rattle.gimple_grammar.specs.declared.syntax.Operand.TheVariants as written
use Rattle.gimple_grammar.specs.declared.syntax.«Type».{«Type» as WrittenType}
use Rattle.gimple_grammar.specs.declared.syntax.«Type».TheVariants as types
use Rattle.gimple_grammar.specs.declared.syntax.Declared.{Declared}
use Rattle.gimple_grammar.specs.declared.syntax.StructText.{StructText}
use Rattle.gimple_syntax.specs.declared.named.Named.{Named}
use Rattle.gimple_syntax.specs.declared.named.Named.TheVariants.{Unknown, Whole, Single}
use Rattle.gimple_syntax.specs.Numbers.{nothing, number_of, at_number, value_of}

-- ---- variables

-- the structs of a module, and the variables of a function, parameters first
abbrev pub struct_number : List StructText → List ℕ → ℕ
struct_number structs tag = number_of (map (λ s. s.name) structs) tag

-- a struct that is refused for its many fields stands for none
abbrev pub usable : Option StructText → Option StructText
usable None = None
usable (Some s) = if nat_le (length s.fields) 8 then Some s else None

abbrev pub struct_named : List StructText → List ℕ → Option StructText
struct_named structs tag = usable (at_number structs (struct_number structs tag))

abbrev pub var_type : List StructText → WrittenType → VarType
var_type structs (types.Scalar ty) = variable.Scalar ty
var_type structs (types.Struct tag) = variable.Struct (struct_number structs tag)

-- one component for a scalar, one for each field of a struct
abbrev pub types_of : List StructText → WrittenType → List ScalarType
types_of structs (types.Scalar ty) = ty ∷ []
types_of structs (types.Struct tag) = option_map_or (λ s. map (λ field. field.ty) s.fields) (struct_named structs tag) []

abbrev pub variable_of : List StructText → Declared → Variable
variable_of structs d = record { name = d.name; ty = var_type structs d.ty; types = types_of structs d.ty }

-- ---- what is named

-- the variables of a function, with the number of the first component of each
pub record Names : Type 0 where
  pub structs : List StructText
  pub variables : List Declared
  pub labels : List (List ℕ)
  pub arrays : List (List ℕ)
  pub functions : List (List ℕ)
  -- how many parameters each function has
  pub arities : List ℕ

abbrev pub first_component : Names → ℕ → ℕ
first_component n v = min (sum_by (λ d. length (types_of n.structs d.ty)) (take v n.variables)) nothing

-- the field of a struct, as a component of the variable
abbrev pub field_at : Names → ℕ → List ℕ → Option StructText → Named
field_at n v field None = Unknown
field_at n v field (Some s) =
    option_map_or (λ place. Single (Component (min (first_component n v + place) nothing))) (position (λ f. bytes_eq field f.name) s.fields) Unknown

-- a variable, or a field of it
abbrev pub variable_at : Names → ℕ → WrittenType → Option (List ℕ) → Named
variable_at n v (types.Scalar ty) None = Single (Component (first_component n v))
variable_at n v (types.Scalar ty) (Some field) = Unknown
variable_at n v (types.Struct tag) None = Whole v
variable_at n v (types.Struct tag) (Some field) = field_at n v field (struct_named n.structs tag)

abbrev pub place_at : Names → Option (List ℕ) → ℕ → Named
place_at n field v = option_map_or (λ d. variable_at n v d.ty field) (at_number n.variables v) Unknown

unfoldable pub named_by : Names → Place → Named
named_by n p = place_at n p.field (number_of (map (λ d. d.name) n.variables) p.name)

abbrev pub operand_named : Names → Written → Named
operand_named n (written.Place p) = named_by n p
operand_named n (written.Literal l) = Single (Literal (value_of l))
