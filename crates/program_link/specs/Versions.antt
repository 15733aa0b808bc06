-- The versions of a plan as the back end takes them: of each its function's body, with the symbols of what it names.
use Rattle.std.specs.Prelude.{ℕ, List, [], length, map, slice_get, unwrap_or}
use Rattle.std.specs.Option.{option_map_or}
use Rattle.gimple_ir.specs.declared.types.ElementType.{ElementType}
use Rattle.gimple_ir.specs.declared.types.ElementType.TheVariants as element
use Rattle.gimple_ir.specs.declared.types.Linkage.TheVariants.{Static}
use Rattle.gimple_ir.specs.declared.types.ResultType.TheVariants.{Void}
use Rattle.gimple_ir.specs.declared.types.Function.{Function}
use Rattle.gimple_ir.specs.declared.types.Program.{Program}
use Rattle.gimple_ir.specs.declared.unit.ArrayUse.{ArrayUse}
use Rattle.gimple_ir.specs.declared.unit.CallUse.{CallUse}
use Rattle.gimple_ir.specs.declared.unit.Member.{Member}
use Rattle.gimple_ir.specs.declared.plan.CallPlan.{CallPlan}
use Rattle.gimple_ir.specs.declared.plan.Version.{Version}
use Rattle.gimple_ir.specs.declared.plan.Plan.{Plan}
use Rattle.gimple_ir.specs.declared.merged.Merged.{Merged}
use Rattle.gimple_ir.specs.declared.versioned.VersionedFunction.{VersionedFunction}
use Rattle.func_summary.specs.Summaries.{arrays_of}
use Rattle.func_summary.specs.Summarised.{module_of}
use Rattle.ipa_transform.specs.Versioned.{versioned_of}
use Rattle.final_link.specs.Arrays.{array_symbol}

-- ---- what a body names

abbrev pub element_of : Merged → ℕ → ElementType
element_of merged number = option_map_or (λ a. a.item.element) (slice_get merged.arrays number) element.UnsignedChar

-- an array by its number in the program
abbrev pub array_use : Merged → ℕ → ArrayUse
array_use merged number = record { local = number; symbol = array_symbol merged number; element = element_of merged number }

-- the symbol of the version at a place
abbrev pub symbol_at : Plan → ℕ → List ℕ
symbol_at plan place = option_map_or (λ v. v.symbol) (slice_get plan.versions place) []

abbrev pub call_use : Plan → CallPlan → CallUse
call_use plan c = record { symbol = symbol_at plan c.target; kept = c.kept }

-- ---- versions

-- a version of this function
abbrev pub member_of : Program → Merged → Plan → Version → Function → Member
member_of p merged plan v f = record {
  symbol = v.symbol;
  parameters = f.parameters;
  variables = map (λ w. w.types) f.variables;
  bindings = v.bindings;
  result = v.result;
  labels = length f.labels;
  arrays = map (array_use merged) (arrays_of (module_of p) f);
  calls = map (call_use plan) v.calls;
  body = f.body;
}

-- what stands for a function that is not there
abbrev no_function : Function
no_function = record { name = []; linkage = Static; result = Void; parameters = 0; variables = []; labels = []; body = [] }

abbrev pub function_at : Program → ℕ → Function
function_at p number = unwrap_or (slice_get p.functions number) no_function

abbrev pub version_in : Program → Merged → Plan → Version → VersionedFunction
version_in p merged plan v = versioned_of (member_of p merged plan v (function_at p v.function))

-- in the plan's order
abbrev pub functions_of : Program → Merged → Plan → List VersionedFunction
functions_of p merged plan = map (version_in p merged plan) plan.versions
