-- The plan of a merged program: one version of each live function, by the functions' numbers, which takes all its arguments and gives its
-- result; and the kept arrays.
use Rattle.std.specs.Prelude.{◌≡◌, ◌<◌, ◌^◌, ℕ, List, ◌++◌, length, map, take, filter, count_by, replicate, Bool, true, codes, decimal, slice_get, All}
use Rattle.std.specs.Option.{option_map_or}
use Rattle.std.specs.List.{range_with_len, enumerate_from}
use Rattle.gimple_ir.specs.Programs.{IsIdentifier}
use Rattle.gimple_ir.specs.declared.lattice.Lattice.TheVariants.{Bottom}
use Rattle.gimple_ir.specs.declared.lattice.Binding.{Binding}
use Rattle.gimple_ir.specs.declared.lattice.Binding.TheVariants.{Arg}
use Rattle.gimple_ir.specs.declared.summary.Edge.{Edge}
use Rattle.gimple_ir.specs.declared.plan.CallPlan.{CallPlan}
use Rattle.gimple_ir.specs.declared.plan.Version.{Version}
use Rattle.gimple_ir.specs.declared.plan.Plan.{Plan}
use Rattle.gimple_ir.specs.declared.merged.Merged.{Merged}
use Rattle.gimple_ir.specs.declared.merged.MergedFunction.{MergedFunction}
use Rattle.call_graph.specs.Live.{marked, MarksLive, HasCallees}
use Rattle.call_graph.specs.Keeping.{kept_of, HasArrays}

-- ---- versions

-- the numbers of all components up to a count
abbrev pub all_of : ℕ → List ℕ
all_of count = range_with_len 0 count

-- each parameter component is the argument of its number
abbrev pub bindings_of : ℕ → List Binding
bindings_of components = map Arg (all_of components)

-- NAME, `.` and the function's number
abbrev pub version_symbol : List ℕ → ℕ → List ℕ
version_symbol name number = name ++ (codes "." ++ decimal number)

-- the place of a function's version: how many live functions stand before it
abbrev pub version_place : List Bool → ℕ → ℕ
version_place live number = count_by (λ b. b) (take number live)

-- how many parameter components a function has
abbrev pub components_of : Merged → ℕ → ℕ
components_of merged number = option_map_or (λ g. length g.summary.params) (slice_get merged.functions number) 0

-- all that the callee takes is passed
abbrev pub call_plan : Merged → List Bool → Edge → CallPlan
call_plan merged live e = record { target = version_place live e.callee; kept = all_of (components_of merged e.callee) }

-- the one version of the function with this number
abbrev pub version_of : Merged → List Bool → ℕ → MergedFunction → Version
version_of merged live number g = record {
  function = number;
  number = 0;
  vector = replicate (length g.summary.params) Bottom;
  bindings = bindings_of (length g.summary.params);
  result = true;
  symbol = version_symbol g.name number;
  size = g.summary.code_bound;
  calls = map (call_plan merged live) g.summary.edges;
}

-- ---- the plan, where the live functions are marked

-- each with its number
abbrev pub live_functions : Merged → List Bool → List (ℕ × MergedFunction)
live_functions merged live = filter (λ e. marked live e.0) (enumerate_from 0 merged.functions)

abbrev pub versions_by : Merged → List Bool → List Version
versions_by merged live = map (λ e. version_of merged live e.0 e.1) (live_functions merged live)

unfoldable pub plan_by : Merged → List Bool → Plan
plan_by merged live = record { versions = versions_by merged live; arrays = kept_of merged live; code = 1 }

-- it is the plan of the program
pub record IsPlanOf (merged : Merged) (plan : Plan) : Type 0 where
  pub live : List Bool
  pub marks : MarksLive merged live
  pub is : plan ≡ plan_by merged live

-- ---- what is asked of a merged program

pub record IsPlannedFunction (g : MergedFunction) : Type 0 where
  pub name : IsIdentifier g.name
  pub parameters : length g.summary.params < 2 ^ 32
  pub arguments : All (λ (e : Edge). length e.args < 2 ^ 32) g.summary.edges

-- its numbers name what is there, and it is no larger than numbers reach
pub record CanBePlanned (merged : Merged) : Type 0 where
  pub few_functions : length merged.functions < 2 ^ 32
  pub few_arrays : length merged.arrays < 2 ^ 32
  pub callees : HasCallees merged
  pub arrays : HasArrays merged
  pub functions : All IsPlannedFunction merged.functions
