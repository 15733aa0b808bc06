-- A merged program that is true of a whole program: its functions are the program's, each with that one's name, types and summary, and
-- its arrays are the program's. All numbers are those of the whole program.
use Rattle.std.specs.Prelude.{◌≡◌, ◌<◌, ◌≤◌, ◌^◌, ℕ, List, [], length, map, take, All, Some, IsSomeAnd, slice_get, true}
use Rattle.std.specs.List.{flat_map}
use Rattle.gimple_ir.specs.declared.types.ScalarType.{ScalarType}
use Rattle.gimple_ir.specs.declared.types.Array.{Array}
use Rattle.gimple_ir.specs.declared.types.Function.{Function}
use Rattle.gimple_ir.specs.declared.types.Module.{Module}
use Rattle.gimple_ir.specs.declared.types.Program.{Program}
use Rattle.gimple_ir.specs.declared.merged.Merged.{Merged}
use Rattle.gimple_ir.specs.declared.merged.MergedFunction.{MergedFunction}
use Rattle.gimple_ir.specs.CodeBound.{components_in, parameter_components, code_bound_of}
use Rattle.gimple_ir.specs.Programs.{IsIdentifier, IsProgram}
use Rattle.func_summary.specs.Summaries.{summary_of}

-- the program as a module, which has neither structs nor declarations
abbrev pub module_of : Program → Module
module_of p = record { structs = []; arrays = p.arrays; functions = p.functions }

-- one for each parameter component
abbrev pub parameter_types_of : Function → List ScalarType
parameter_types_of f = flat_map (λ v. v.types) (take f.parameters f.variables)

-- within the limits of a function, under a name of the language
pub record IsSmallFunction (f : Function) : Type 0 where
  pub name : IsIdentifier f.name
  pub components : components_in f.variables ≤ 1024
  pub parameters : parameter_components f ≤ 64
  pub statements : length f.body ≤ 8192
  pub code : code_bound_of f ≤ 524288

pub record IsSmallArray (a : Array) : Type 0 where
  pub name : IsIdentifier a.name
  pub elements : a.length ≤ 67108864

-- what a link knows of a function is true of it
pub record IsTrueOf (p : Program) (g : MergedFunction) (f : Function) : Type 0 where
  pub name : g.name ≡ f.name
  pub result : g.result ≡ f.result
  pub types : g.parameter_types ≡ parameter_types_of f
  pub summary : g.summary ≡ summary_of (module_of p) f

pub record IsSummarised (p : Program) (merged : Merged) : Type 0 where
  pub program : IsProgram p
  pub functions : All IsSmallFunction p.functions
  pub arrays : All IsSmallArray p.arrays
  pub few_functions : length p.functions < 2 ^ 32
  pub few_arrays : length p.arrays < 2 ^ 32
  -- one merged function for each, in their order
  pub one_each : length merged.functions ≡ length p.functions
  pub summaries : (n : ℕ) (g : MergedFunction) (f : Function) → slice_get merged.functions n ≡ Some g → slice_get p.functions n ≡ Some f → IsTrueOf p g f
  pub items : map (λ a. a.item) merged.arrays ≡ p.arrays
  pub names : All (λ a. a.name ≡ a.item.name) merged.arrays
  -- `main` is the program's, and exported
  pub main : merged.main ≡ p.main
  pub exported : IsSomeAnd (slice_get merged.functions merged.main) (λ g. g.exported ≡ true)
