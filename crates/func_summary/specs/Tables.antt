-- The tables of a function's variables and components: what is laid out of them, how places use each, and how often each
-- is assigned, with the value where that is once.
use Rattle.std.specs.Prelude.{ℕ, ◌+◌, ◌^◌, ◌≡◌, ◌≤◌, ◌<◌, ◌||◌, not, List, [], ◌∷◌, length, map, take}
use Rattle.std.specs.List.{range_with_len}
use Rattle.gimple_ir.specs.declared.types.ScalarType.{ScalarType}
use Rattle.gimple_ir.specs.declared.types.Variable.{Variable}
use Rattle.gimple_ir.specs.declared.types.Function.{Function}
use Rattle.gimple_ir.specs.declared.summary.ParamFacts.{ParamFacts}
use Rattle.gimple_ir.specs.declared.summary.JumpFunction.{JumpFunction}
use Rattle.gimple_ir.specs.CodeBound.{components_in}
use Rattle.gimple_ir.specs.Statements.{component_types}
use Rattle.func_summary.specs.declared.places.Place.{Place}
use Rattle.func_summary.specs.declared.assignments.Assignment.{Assignment}
use Rattle.func_summary.specs.declared.assignments.Assigned.{Assigned}
use Rattle.func_summary.specs.declared.assignments.Assigned.TheVariants.{Never, Once, Often}
use Rattle.func_summary.specs.JumpFunctions.{assignments_to}
use Rattle.func_summary.specs.Summaries.{facts_of, places_naming}

-- what the assignments to one component come to
abbrev pub assigned_of : List Assignment → Assigned
assigned_of [] = Never
assigned_of (a ∷ []) = Once a.value
assigned_of (a ∷ b ∷ more) = Often

-- after one more assignment, which gives the value
abbrev pub assigned_more : Assigned → JumpFunction → Assigned
assigned_more Never value = Once value
assigned_more (Once first) value = Often
assigned_more Often value = Often

-- of each component below the count
abbrev pub assigned_table : ℕ → List Assignment → List Assigned
assigned_table count assignments = map (λ x. assigned_of (assignments_to x assignments)) (range_with_len 0 count)

-- one place more can be counted
abbrev pub HasRoom : ParamFacts → Type 0
HasRoom facts = facts.weight + 1 < 2 ^ 32

-- after one place more
abbrev pub facts_more : ParamFacts → Place → ParamFacts
facts_more facts place = record { weight = facts.weight + 1; used_here = facts.used_here || not place.is_argument }

-- of each component below the count
abbrev pub facts_table : ℕ → List Place → List ParamFacts
facts_table count places = map (λ x. facts_of (places_naming x places)) (range_with_len 0 count)

-- the first component of each variable
abbrev pub firsts_of : List Variable → List ℕ
firsts_of variables = map (λ v. components_in (take v variables)) (range_with_len 0 (length variables))

-- the components of a function, laid out
pub record IsLaidOut (f : Function) (first : List ℕ) (count : ℕ) (laid : List ScalarType) : Type 0 where
  pub firsts : first ≡ firsts_of f.variables
  pub total : count ≡ components_in f.variables
  pub types : laid ≡ component_types f.variables
  pub small : components_in f.variables ≤ 1024
