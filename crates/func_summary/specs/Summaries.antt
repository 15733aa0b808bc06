-- The summary of a function, from its whole body: how long its code may get, how its parameter components are used, which
-- arrays its statements name, and its calls. Components are counted in the list of all operand places, and arrays are
-- looked for in the order of their numbers; the code goes over the body and sorts.
use Rattle.std.specs.Prelude.{ℕ, List, [], ◌∷◌, ◌++◌, length, map, Bool, true, false, not, if◌then◌else◌, nat_eq, Option, Some, None, is_some}
use Rattle.std.specs.List.{filter, filter_map, flat_map, list_any, range_with_len, enumerate_from}
use Rattle.gimple_ir.specs.declared.types.Operand.{Operand}
use Rattle.gimple_ir.specs.declared.types.Operand.TheVariants.{Component, Literal}
use Rattle.gimple_ir.specs.declared.types.Arg.{Arg}
use Rattle.gimple_ir.specs.declared.types.Arg.TheVariants.{One, Whole}
use Rattle.gimple_ir.specs.declared.types.Variable.{Variable}
use Rattle.gimple_ir.specs.declared.types.Function.{Function}
use Rattle.gimple_ir.specs.declared.types.Module.{Module}
use Rattle.gimple_ir.specs.declared.types.Statement.{Statement}
use Rattle.gimple_ir.specs.declared.types.Statement.TheVariants.{Cond, Switch, Return, Copy, Unary, Convert, Binary, Load, Store, CopyStruct, Call, Putchar, Exit}
use Rattle.gimple_ir.specs.declared.summary.ParamFacts.{ParamFacts}
use Rattle.gimple_ir.specs.declared.summary.EdgeArg.{EdgeArg}
use Rattle.gimple_ir.specs.declared.summary.Edge.{Edge}
use Rattle.gimple_ir.specs.declared.summary.Summary.{Summary}
use Rattle.gimple_ir.specs.CodeBound.{components_of, parameter_components, code_bound_of}
use Rattle.func_summary.specs.declared.places.Place.{Place}
use Rattle.func_summary.specs.JumpFunctions.{field_of, is_parameter, component_jump, jump_of}

-- ---- operand places

abbrev pub place_of : Bool → ℕ → Place
place_of is_argument x = record { component = x; is_argument = is_argument }

-- a literal names no component
abbrev pub operand_places : Bool → Operand → List Place
operand_places is_argument (Component x) = place_of is_argument x ∷ []
operand_places is_argument (Literal v) = []

abbrev pub place_of_field : List Variable → Bool → ℕ → ℕ → Place
place_of_field variables is_argument v field = place_of is_argument (field_of variables v field)

-- each component of a whole struct
abbrev pub whole_places : List Variable → Bool → ℕ → List Place
whole_places variables is_argument v =
    map (place_of_field variables is_argument v) (range_with_len 0 (components_of variables v))

abbrev pub argument_places : List Variable → Arg → List Place
argument_places variables (One a) = operand_places true a
argument_places variables (Whole v) = whole_places variables true v

-- the places of the statement that name a component; those of a builtin are no arguments
abbrev pub operands_of : List Variable → Statement → List Place
operands_of variables (Cond op a b met missed) = operand_places false a ++ operand_places false b
operands_of variables (Switch a cases otherwise) = operand_places false a
operands_of variables (Return a) = operand_places false a
operands_of variables (Copy to a) = operand_places false a
operands_of variables (Unary to op a) = operand_places false a
operands_of variables (Convert to a) = operand_places false a
operands_of variables (Binary to op a b) = operand_places false a ++ operand_places false b
operands_of variables (Load to array a) = operand_places false a
operands_of variables (Store array a b) = operand_places false a ++ operand_places false b
operands_of variables (CopyStruct to from) = whole_places variables false from
operands_of variables (Call to f args) = flat_map (argument_places variables) args
operands_of variables (Putchar a) = operand_places false a
operands_of variables (Exit a) = operand_places false a
operands_of variables _ = []

abbrev pub places_of : Function → List Place
places_of f = flat_map (operands_of f.variables) f.body

-- those of the places that name the component
abbrev pub places_naming : ℕ → List Place → List Place
places_naming x places = filter (λ p. nat_eq p.component x) places

abbrev pub weight_of : List Place → ℕ
weight_of places = length places

abbrev pub is_used_here : List Place → Bool
is_used_here places = list_any (λ p. not p.is_argument) places

-- of the places that name one component
abbrev pub facts_of : List Place → ParamFacts
facts_of places = record { weight = weight_of places; used_here = is_used_here places }

abbrev pub params_of : Function → List ParamFacts
params_of f = map (λ x. facts_of (places_naming x (places_of f))) (range_with_len 0 (parameter_components f))

-- ---- arrays

abbrev pub arrays_in : Statement → List ℕ
arrays_in (Load to array a) = array ∷ []
arrays_in (Store array a b) = array ∷ []
arrays_in _ = []

-- some statement names the array
abbrev pub names_array : Function → ℕ → Bool
names_array f array = list_any (nat_eq array) (flat_map arrays_in f.body)

-- the arrays of the module that are named, ascending
abbrev pub arrays_of : Module → Function → List ℕ
arrays_of m f = filter (names_array f) (range_with_len 0 (length m.arrays))

-- ---- edges

abbrev pub component_argument : Function → ℕ → EdgeArg
component_argument f x = record { jump = component_jump f x; source = if is_parameter f x then Some x else None }

abbrev pub field_argument : Function → ℕ → ℕ → EdgeArg
field_argument f v field = component_argument f (field_of f.variables v field)

-- the argument components of one argument
abbrev pub edge_arguments : Function → Arg → List EdgeArg
edge_arguments f (One (Component x)) = component_argument f x ∷ []
edge_arguments f (One (Literal v)) = record { jump = jump_of f (Literal v); source = None } ∷ []
edge_arguments f (Whole v) = map (field_argument f v) (range_with_len 0 (components_of f.variables v))

abbrev pub edge_of : Function → ℕ → Statement → Option Edge
edge_of f place (Call to g args) =
    Some (record { statement = place; callee = g; assigns = is_some to; args = flat_map (edge_arguments f) args })
edge_of f place _ = None

abbrev pub edges_of : Function → List Edge
edges_of f = filter_map (λ pair. edge_of f pair.0 pair.1) (enumerate_from 0 f.body)

-- ---- the whole

abbrev pub summary_of : Module → Function → Summary
summary_of m f = record {
  code_bound = code_bound_of f;
  params = params_of f;
  arrays = arrays_of m f;
  edges = edges_of f;
}
