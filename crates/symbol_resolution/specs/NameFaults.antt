-- What is wrong with the symbols of a name: two prevail, none does, or their types do not match. And what is wrong with `main`.
use Rattle.std.specs.Prelude.{ℕ, List, [], ◌∷◌, take, count_by, Option, Some, None, Bool, true, false, ◌&&◌, not, nat_lt, nat_eq, slice_get, codes, if◌then◌else◌}
use Rattle.std.specs.List.{list_any, find}
use Rattle.std.specs.Option.{option_or, option_map_or, option_and_then}
use Rattle.std.specs.Cmp.Lexicographic.{pointwise}
use Rattle.gimple_ir.specs.declared.types.ScalarType.TheVariants.{Int}
use Rattle.gimple_ir.specs.declared.types.ElementType.{ElementType}
use Rattle.gimple_ir.specs.declared.types.ElementType.TheVariants as element
use Rattle.gimple_ir.specs.declared.types.ResultType.{ResultType}
use Rattle.gimple_ir.specs.declared.types.ResultType.TheVariants as returned
use Rattle.gimple_ir.specs.declared.types.Variable.{Variable}
use Rattle.gimple_ir.specs.declared.types.Array.{Array}
use Rattle.gimple_ir.specs.declared.types.Function.{Function}
use Rattle.gimple_ir.specs.Lattices.{same_type}
use Rattle.lto_object.specs.Objects.{ObjectData}
use Rattle.resolution_text.specs.declared.fault.ResolutionKind.{ResolutionKind}
use Rattle.resolution_text.specs.declared.fault.ResolutionKind.TheVariants.{TwoPrevailing, NoPrevailing, TypeMismatch, NoMain}
use Rattle.resolution_text.specs.declared.fault.ResolutionError.{ResolutionError}
use Rattle.resolution_text.specs.declared.fault.ResolutionError.TheVariants.{AtName}
use Rattle.symbol_resolution.specs.declared.marks.Mark.{Mark}
use Rattle.symbol_resolution.specs.Groups.{of_name}
use Rattle.symbol_resolution.specs.Marks.{prevails, prevailing_mark}

-- ---- types that match

abbrev pub same_result : ResultType → ResultType → Bool
same_result returned.Void returned.Void = true
same_result (returned.Scalar a) (returned.Scalar b) = same_type a b
same_result _ _ = false

abbrev pub same_element : ElementType → ElementType → Bool
same_element element.UnsignedChar element.UnsignedChar = true
same_element (element.Scalar a) (element.Scalar b) = same_type a b
same_element _ _ = false

-- the component types of each parameter: a struct of one field and a scalar of its type are alike
abbrev pub parameters_of : Function → List Variable
parameters_of f = take f.parameters f.variables

abbrev pub same_components : Variable → Variable → Bool
same_components v w = pointwise same_type v.types w.types

-- equal results, and equal component types of the parameters, split alike
abbrev pub same_function : Function → Function → Bool
same_function f g = same_result f.result g.result && pointwise same_components (parameters_of f) (parameters_of g)

abbrev pub same_array : Array → Array → Bool
same_array a b = same_element a.element b.element && nat_eq a.length b.length

-- ---- the items of symbols

abbrev pub function_at : List ObjectData → ℕ → ℕ → Option Function
function_at objects object place = option_and_then (λ o. slice_get o.source.functions place) (slice_get objects object)

abbrev pub array_at : List ObjectData → ℕ → ℕ → Option Array
array_at objects object place = option_and_then (λ o. slice_get o.source.arrays place) (slice_get objects object)

abbrev pub both : {A : Type 0} → (A → A → Bool) → Option A → Option A → Bool
both same (Some a) (Some b) = same a b
both same _ _ = false

abbrev pub functions_match : List ObjectData → Mark → Mark → Bool
functions_match objects m n = both same_function (function_at objects m.object m.place) (function_at objects n.object n.place)

abbrev pub arrays_match : List ObjectData → Mark → Mark → Bool
arrays_match objects m n = both same_array (array_at objects m.object m.place) (array_at objects n.object n.place)

-- both are functions, or both arrays, and their types match
abbrev pub types_match : List ObjectData → Mark → Mark → Bool
types_match objects m n =
    if m.function then n.function && functions_match objects m n
    else not n.function && arrays_match objects m n

-- ---- the fault of a name

-- some symbol does not match the one that prevails
abbrev pub prevailing_fault : List ObjectData → List Mark → Option Mark → Option ResolutionKind
prevailing_fault objects group None = Some NoPrevailing
prevailing_fault objects group (Some m) = if list_any (λ n. not (types_match objects m n)) group then Some TypeMismatch else None

-- what is wrong with all symbols of a name
abbrev pub group_fault : List ObjectData → List Mark → Option ResolutionKind
group_fault objects group =
    if nat_lt 1 (count_by prevails group) then Some TwoPrevailing
    else prevailing_fault objects group (find prevails group)

abbrev pub same_sort : Bool → Bool → Bool
same_sort a b = if a then b else not b

-- the mark is that of the function, or array, of this number of the object
abbrev pub is_at : Bool → ℕ → ℕ → Mark → Bool
is_at function object place m = same_sort function m.function && nat_eq object m.object && nat_eq place m.place

-- the first symbol of its name
abbrev pub is_first : Mark → List Mark → Bool
is_first m [] = false
is_first m (n ∷ ns) = is_at m.function m.object m.place n

abbrev pub at_name : List ℕ → Option ResolutionKind → Option ResolutionError
at_name name None = None
at_name name (Some kind) = Some (AtName kind name)

-- what is said at a symbol, which is of its name where it is the first
abbrev pub mark_fault : List ObjectData → List (List ℕ × Mark) → List ℕ → Mark → Option ResolutionError
mark_fault objects all name m =
    if is_first m (of_name name all) then at_name name (group_fault objects (of_name name all)) else None

-- the fault of the first name that has one, in the order of their first symbols
abbrev pub names_fault : List ObjectData → (all marks : List (List ℕ × Mark)) → Option ResolutionError
names_fault objects all [] = None
names_fault objects all (e ∷ es) = option_or (mark_fault objects all e.0 e.1) (names_fault objects all es)

-- ---- `main`

abbrev pub is_int : ResultType → Bool
is_int returned.Void = false
is_int (returned.Scalar ty) = same_type ty Int

-- `int main ()`
abbrev pub is_main : Function → Bool
is_main f = is_int f.result && nat_eq f.parameters 0

abbrev pub is_main_at : List ObjectData → Option Mark → Bool
is_main_at objects None = false
is_main_at objects (Some m) = m.function && option_map_or is_main (function_at objects m.object m.place) false

-- no function `int main ()` prevails
abbrev pub main_fault : List ObjectData → List (List ℕ × Mark) → Option ResolutionError
main_fault objects marks =
    if is_main_at objects (prevailing_mark (codes "main") marks) then None else Some (AtName NoMain (codes "main"))
