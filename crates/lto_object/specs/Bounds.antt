-- The functions of a module that have a body, and what the numbers in the streams of each may name.
use Rattle.std.specs.Prelude.{ℕ, ◌<◌, ◌^◌, List, length, map, All, Bool, not}
use Rattle.std.specs.List.{filter}
use Rattle.gimple_ir.specs.Checks.{is_extern}
use Rattle.gimple_ir.specs.Statements.{component_types}
use Rattle.gimple_ir.specs.declared.types.Function.{Function}
use Rattle.gimple_ir.specs.declared.types.Module.{Module}
use Rattle.module_stream.specs.declared.bounds.BodyBounds.{BodyBounds}

abbrev pub is_defined : Function → Bool
is_defined f = not (is_extern f.linkage)

abbrev pub defined_of : List Function → List Function
defined_of functions = filter is_defined functions

-- the function's own components, variables and labels, and the arrays and functions of its module
abbrev pub bounds_of : Module → Function → BodyBounds
bounds_of m f = record {
  types = component_types f.variables;
  variables = length f.variables;
  labels = length f.labels;
  arrays = length m.arrays;
  functions = length m.functions;
}

-- those of each function that has a body, in order
abbrev pub bounds_in : Module → List BodyBounds
bounds_in m = map (bounds_of m) (defined_of m.functions)

-- the counts of the function fit a u32
pub record HasFewNames (f : Function) : Type 0 where
  pub variables : length f.variables < 2 ^ 32
  pub labels : length f.labels < 2 ^ 32

-- the counts that bounds are made of fit a u32
pub record HasBounds (m : Module) : Type 0 where
  pub arrays : length m.arrays < 2 ^ 32
  pub functions : length m.functions < 2 ^ 32
  pub each : All HasFewNames m.functions
