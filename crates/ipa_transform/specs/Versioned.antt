-- A version of a function as steps: the statements of its body at their places, over components alone. A copy becomes one pair, a
-- struct copy a pair for each field, in order; a call passes those argument components that its target takes; a result that is not
-- kept is not read. Arrays and calls are numbered by the member's lists.
use Rattle.std.specs.Prelude.{ℕ, zero, suc, ◌+◌, ◌==◌, List, [], ◌∷◌, length, map, take, sum_by, slice_get, Bool, if◌then◌else◌, Option, Some, None}
use Rattle.std.specs.List.{flat_map}
use Rattle.std.specs.Option.{option_map_or}
use Rattle.gimple_ir.specs.declared.types.ScalarType.{ScalarType}
use Rattle.gimple_ir.specs.declared.types.Operand.{Operand}
use Rattle.gimple_ir.specs.declared.types.Arg.{Arg}
use Rattle.gimple_ir.specs.declared.types.Arg.TheVariants.{One, Whole}
use Rattle.gimple_ir.specs.declared.types.Statement.{Statement}
use Rattle.gimple_ir.specs.declared.types.Statement.TheVariants.{Nop, Label, Goto, Cond, Switch, ReturnVoid, Return, Copy, Unary, Convert, Binary, Load, Store, CopyStruct, Call, Putchar, Getchar, Exit}
use Rattle.gimple_ir.specs.declared.unit.ArrayUse.{ArrayUse}
use Rattle.gimple_ir.specs.declared.unit.CallUse.{CallUse}
use Rattle.gimple_ir.specs.declared.unit.Member.{Member}
use Rattle.gimple_ir.specs.declared.versioned.Pair.{Pair}
use Rattle.gimple_ir.specs.declared.versioned.Step.{Step}
use Rattle.gimple_ir.specs.declared.versioned.Step.TheVariants as steps
use Rattle.gimple_ir.specs.declared.versioned.VersionedFunction.{VersionedFunction}
use Rattle.gimple_meaning.specs.Source.{components_from, pairs_from}

-- ---- variables, component by component

-- the number of a variable's first component
abbrev pub first_component : List (List ScalarType) → ℕ → ℕ
first_component variables v = sum_by length (take v variables)

abbrev pub field_count : List (List ScalarType) → ℕ → ℕ
field_count variables v = option_map_or length (slice_get variables v) 0

-- the argument components of an argument
abbrev pub operands_of : List (List ScalarType) → Arg → List Operand
operands_of variables (One a) = a ∷ []
operands_of variables (Whole v) = components_from (first_component variables v) (field_count variables v)

abbrev pub struct_pairs : List (List ScalarType) → ℕ → ℕ → List Pair
struct_pairs variables to from =
    pairs_from (first_component variables to) (first_component variables from) (field_count variables from)

-- ---- the member's lists

-- the place of an array in the list of those that the body names
abbrev pub use_of : List ArrayUse → ℕ → ℕ
use_of [] array = 0
use_of (u ∷ us) array = if u.local == array then 0 else suc (use_of us array)

-- what stands at a place
abbrev pub at_place : {A : Type 0} → List A → ℕ → List A
at_place xs k = option_map_or (λ x. x ∷ []) (slice_get xs k) []

-- what stands at these places
abbrev pub picked : {A : Type 0} → List A → List ℕ → List A
picked xs places = flat_map (at_place xs) places

-- the places of the argument components that a call passes
abbrev pub kept_of : List CallUse → ℕ → List ℕ
kept_of calls n = option_map_or (λ c. c.kept) (slice_get calls n) []

-- ---- steps

-- the step of a statement before which n functions were called
abbrev pub step_of : Member → ℕ → Statement → Step
step_of m n Nop = steps.Nop
step_of m n (Label l) = steps.Label l
step_of m n (Goto l) = steps.Goto l
step_of m n (Cond op a b met missed) = steps.Cond op a b met missed
step_of m n (Switch a cases otherwise) = steps.Switch a cases otherwise
step_of m n ReturnVoid = steps.Return None
step_of m n (Return a) = steps.Return (if m.result then Some a else None)
step_of m n (Copy to a) = steps.Copies (record { to = to; from = a } ∷ [])
step_of m n (Unary to op a) = steps.Unary to op a
step_of m n (Convert to a) = steps.Convert to a
step_of m n (Binary to op a b) = steps.Binary to op a b
step_of m n (Load to array a) = steps.Load to (use_of m.arrays array) a
step_of m n (Store array a b) = steps.Store (use_of m.arrays array) a b
step_of m n (CopyStruct to from) = steps.Copies (struct_pairs m.variables to from)
step_of m n (Call to f args) = steps.Call to n (picked (flat_map (operands_of m.variables) args) (kept_of m.calls n))
step_of m n (Putchar a) = steps.Putchar a
step_of m n (Getchar to) = steps.Getchar to
step_of m n (Exit a) = steps.Exit a

-- how many functions a statement calls
abbrev pub calls_in : Statement → ℕ
calls_in (Call to f args) = 1
calls_in _ = 0

-- the steps of statements before which n functions were called
abbrev pub steps_of : Member → ℕ → List Statement → List Step
steps_of m n [] = []
steps_of m n (s ∷ ss) = step_of m n s ∷ steps_of m (n + calls_in s) ss

-- the version that a member describes
abbrev pub versioned_of : Member → VersionedFunction
versioned_of m = record {
  symbol = m.symbol;
  types = flat_map (λ types. types) m.variables;
  bindings = m.bindings;
  labels = m.labels;
  arrays = m.arrays;
  calls = map (λ c. c.symbol) m.calls;
  body = steps_of m 0 m.body;
}
