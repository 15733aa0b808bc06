-- A whole program of the source language as a system: what each of its statements does. Undefined are: an operation where
-- `gimple_ir`'s `Values` has no result, an operand that is unset, an index that is not in the array, a call while the most
-- frames are active; and a place, number or type that no checked program has.
use Rattle.std.specs.Prelude.{ℕ, zero, suc, ◌+◌, ◌-◌, ◌++◌, pos, List, [], ◌∷◌, map, Option, Some, None, Bool, true, false, ◌&&◌, if◌then◌else◌, slice_get, slice_set, take, replicate, unsigned_abs, ◌==◌}
use Rattle.std.specs.List.{flat_map}
use Rattle.std.specs.Option.{is_some}
use Rattle.std.specs.Ordering.{int_eq}
use Rattle.gimple_ir.specs.Values.{unary_of, convert_of, value_of}
use Rattle.gimple_ir.specs.Statements.{component_types}
use Rattle.gimple_ir.specs.CodeBound.{components_in, components_of, parameter_components}
use Rattle.gimple_ir.specs.declared.types.ScalarType.TheVariants.{Int}
use Rattle.gimple_ir.specs.declared.types.Operand.{Operand}
use Rattle.gimple_ir.specs.declared.types.Operand.TheVariants.{Component}
use Rattle.gimple_ir.specs.declared.types.Arg.{Arg}
use Rattle.gimple_ir.specs.declared.types.Arg.TheVariants.{One, Whole}
use Rattle.gimple_ir.specs.declared.types.Value.{Value}
use Rattle.gimple_ir.specs.declared.types.Array.{Array}
use Rattle.gimple_ir.specs.declared.types.Variable.{Variable}
use Rattle.gimple_ir.specs.declared.types.Function.{Function}
use Rattle.gimple_ir.specs.declared.types.Program.{Program}
use Rattle.gimple_ir.specs.declared.types.Statement.{Statement}
use Rattle.gimple_ir.specs.declared.types.Statement.TheVariants.{Nop, Label, Goto, Cond, Switch, ReturnVoid, Return, Copy, Unary, Convert, Binary, Load, Store as StoreTo, CopyStruct, Call, Putchar, Getchar, Exit}
use Rattle.gimple_ir.specs.declared.versioned.Pair.{Pair}
use Rattle.gimple_meaning.specs.Acts.{Store, Act, Fault, Goes, Calls, Leaves, Exits, needing, low_byte, cell, value_at, sets, copied, operation_of, case_label, element_type, element_at, loaded, stored, with_element, read_byte, unread}
use Rattle.gimple_meaning.specs.Systems.{System, State, start_in}

-- ---- structs, component by component

-- the number of a variable's first component
abbrev pub first_component : List Variable → ℕ → ℕ
first_component variables v = components_in (take v variables)

-- as many components as are asked for, the first of them `first`
abbrev pub components_from : ℕ → ℕ → List Operand
components_from first zero = []
components_from first (suc n) = Component first ∷ components_from (first + 1) n

abbrev pub pairs_from : ℕ → ℕ → ℕ → List Pair
pairs_from to from zero = []
pairs_from to from (suc n) = record { to = to; from = Component from } ∷ pairs_from (to + 1) (from + 1) n

abbrev pub struct_pairs : List Variable → ℕ → ℕ → List Pair
struct_pairs variables to from =
    pairs_from (first_component variables to) (first_component variables from) (components_of variables from)

abbrev pub operands_of : List Variable → Arg → List Operand
operands_of variables (One o) = o ∷ []
operands_of variables (Whole v) = components_from (first_component variables v) (components_of variables v)

-- an argument that is an operand is read, and must be set; a whole struct is not read
abbrev pub can_pass : List (Option Value) → List Arg → Bool
can_pass cells [] = true
can_pass cells (One o ∷ more) = is_some (value_at cells o) && can_pass cells more
can_pass cells (Whole v ∷ more) = can_pass cells more

-- ---- statements

abbrev pub is_label : ℕ → Statement → Bool
is_label l (Label k) = k == l
is_label l _ = false

-- the place of a label's statement
abbrev pub place_of : List Statement → ℕ → ℕ
place_of [] l = 0
place_of (s ∷ ss) l = if is_label l s then 0 else suc (place_of ss l)

-- what a statement of the function at a place does
abbrev pub effect : List Array → Function → ℕ → Store → Statement → Act
effect arrays f place s Nop = Goes (place + 1) s []
effect arrays f place s (Label l) = Goes (place + 1) s []
effect arrays f place s (Goto l) = Goes (place_of f.body l) s []
effect arrays f place s (Cond op left right met missed) =
    needing (value_at s.cells left) (λ a. needing (value_at s.cells right) (λ b. needing (operation_of op a b) (λ v. Goes (place_of f.body (if int_eq v.num (pos 0) then missed else met)) s [])))
effect arrays f place s (Switch on cases otherwise) = needing (value_at s.cells on) (λ v. Goes (place_of f.body (case_label cases v.num otherwise)) s [])
effect arrays f place s ReturnVoid = Leaves None
effect arrays f place s (Return o) = needing (value_at s.cells o) (λ v. Leaves (Some v))
effect arrays f place s (Copy to from) = needing (value_at s.cells from) (λ v. sets place s to v)
effect arrays f place s (Unary to op from) = needing (value_at s.cells from) (λ a. needing (unary_of op a) (λ v. sets place s to v))
effect arrays f place s (Convert to from) =
    needing (value_at s.cells from) (λ a. needing (slice_get (component_types f.variables) to) (λ ty. sets place s to (convert_of ty a)))
effect arrays f place s (Binary to op left right) =
    needing (value_at s.cells left) (λ a. needing (value_at s.cells right) (λ b. needing (operation_of op a b) (λ v. sets place s to v)))
effect arrays f place s (Load to array index) =
    needing (value_at s.cells index) (λ i. needing (element_type arrays array) (λ element. needing (element_at s.arrays array i.num) (λ z. sets place s to (loaded element z))))
effect arrays f place s (StoreTo array index from) =
    needing (value_at s.cells index) (λ i. needing (value_at s.cells from) (λ v. needing (element_type arrays array) (λ element. needing (element_at s.arrays array i.num) (λ before.
    Goes (place + 1) (record s { arrays = with_element s.arrays array (unsigned_abs i.num) (stored element v.num) }) []))))
effect arrays f place s (CopyStruct to from) = Goes (place + 1) (record s { cells = copied s.cells (struct_pairs f.variables to from) }) []
effect arrays f place s (Call to g args) =
    if can_pass s.cells args then Calls g (map (value_at s.cells) (flat_map (operands_of f.variables) args)) else Fault
effect arrays f place s (Putchar o) = needing (value_at s.cells o) (λ v. Goes (place + 1) s (low_byte v.num ∷ []))
effect arrays f place s (Getchar None) = Goes (place + 1) (record s { input = unread s.input }) []
effect arrays f place s (Getchar (Some to)) =
    Goes (place + 1) (record s { cells = slice_set s.cells to (Some (value_of Int (read_byte s.input))); input = unread s.input }) []
effect arrays f place s (Exit o) = needing (value_at s.cells o) (λ v. Exits (low_byte v.num))

-- ---- the system

abbrev pub effect_in : List Array → Function → ℕ → Store → Option Statement → Act
effect_in arrays f place s None = Fault
effect_in arrays f place s (Some statement) = effect arrays f place s statement

abbrev pub effect_at : List Array → Option Function → ℕ → Store → Act
effect_at arrays None place s = Fault
effect_at arrays (Some f) place s = effect_in arrays f place s (slice_get f.body place)

-- n parameter components from number k on, each from the argument component of its number
abbrev pub taken : ℕ → ℕ → List (Option Value) → List (Option Value)
taken k zero args = []
taken k (suc n) args = cell args k ∷ taken (k + 1) n args

-- parameters have the arguments, and all other components are unset
abbrev pub begun : Option Function → List (Option Value) → Option (List (Option Value))
begun None args = None
begun (Some f) args =
    Some (taken 0 (parameter_components f) args ++ replicate (components_in f.variables - parameter_components f) None)

abbrev pub target_of : Option Statement → Option ℕ
target_of (Some (Call to g args)) = to
target_of _ = None

abbrev pub target_at : Option Function → ℕ → Option ℕ
target_at None place = None
target_at (Some f) place = target_of (slice_get f.body place)

abbrev pub source_of : Program → System
source_of program = record {
  acts = λ f place s. effect_at program.arrays (slice_get program.functions f) place s;
  enters = λ f args. begun (slice_get program.functions f) args;
  receives = λ f place. target_at (slice_get program.functions f) place;
}

abbrev pub start : Program → List ℕ → State
start program input = start_in (source_of program) program.arrays program.main input
