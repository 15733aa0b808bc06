-- Members, put together of their parts.
use Rattle.std.proofs.Common.{◌≡◌, ℕ, List, map, length, ap, sym, ◌∙◌}
use Rattle.gimple_ir.specs.declared.types.ScalarType.{ScalarType}
use Rattle.gimple_ir.specs.declared.types.Variable.{Variable}
use Rattle.gimple_ir.specs.declared.types.Statement.{Statement}
use Rattle.gimple_ir.specs.declared.types.Function.{Function}
use Rattle.gimple_ir.specs.declared.types.Program.{Program}
use Rattle.gimple_ir.specs.declared.lattice.Binding.{Binding}
use Rattle.gimple_ir.specs.declared.merged.Merged.{Merged}
use Rattle.gimple_ir.specs.declared.plan.Plan.{Plan}
use Rattle.gimple_ir.specs.declared.plan.Version.{Version}
use Rattle.gimple_ir.specs.declared.unit.ArrayUse.{ArrayUse}
use Rattle.gimple_ir.specs.declared.unit.CallUse.{CallUse}
use Rattle.gimple_ir.specs.declared.unit.Member.{Member}
use Rattle.func_summary.specs.Summaries.{arrays_of}
use Rattle.func_summary.specs.Summarised.{module_of}
use Rattle.program_link.specs.Versions.{array_use, call_use, member_of, function_at}

abbrev member_with : Version → Function → List ℕ → List (List ScalarType) → List Binding → ℕ → List ArrayUse → List CallUse → List Statement → Member
member_with version f symbol variables bindings labels arrays calls body = record {
  symbol = symbol;
  parameters = f.parameters;
  variables = variables;
  bindings = bindings;
  result = version.result;
  labels = labels;
  arrays = arrays;
  calls = calls;
  body = body;
}

pub member_made : (program : Program) (merged : Merged) (plan : Plan) (version : Version) (f : Function)
    (symbol : List ℕ) (variables : List (List ScalarType)) (bindings : List Binding) (labels : ℕ) (arrays : List ArrayUse) (calls : List CallUse) (body : List Statement)
    → symbol ≡ version.symbol → variables ≡ map (λ (v : Variable). v.types) f.variables → bindings ≡ version.bindings → labels ≡ length f.labels
    → arrays ≡ map (array_use merged) (arrays_of (module_of program) f) → calls ≡ map (call_use plan) version.calls → body ≡ f.body
    → member_with version f symbol variables bindings labels arrays calls body ≡ member_of program merged plan version f
member_made program merged plan version f symbol variables bindings labels arrays calls body s v b l a k d =
    ap (λ x. member_with version f x variables bindings labels arrays calls body) s
    ∙ ap (λ x. member_with version f version.symbol x bindings labels arrays calls body) v
    ∙ ap (λ x. member_with version f version.symbol (map (λ (w : Variable). w.types) f.variables) x labels arrays calls body) b
    ∙ ap (λ x. member_with version f version.symbol (map (λ (w : Variable). w.types) f.variables) version.bindings x arrays calls body) l
    ∙ ap (λ x. member_with version f version.symbol (map (λ (w : Variable). w.types) f.variables) version.bindings (length f.labels) x calls body) a
    ∙ ap (λ x. member_with version f version.symbol (map (λ (w : Variable). w.types) f.variables) version.bindings (length f.labels) (map (array_use merged) (arrays_of (module_of program) f)) x body) k
    ∙ ap (λ x. member_with version f version.symbol (map (λ (w : Variable). w.types) f.variables) version.bindings (length f.labels) (map (array_use merged) (arrays_of (module_of program) f)) (map (call_use plan) version.calls) x) d

-- of the function that stands for the version
pub member_at : (program : Program) (merged : Merged) (plan : Plan) (version : Version) (f : Function) → function_at program version.function ≡ f
    → member_of program merged plan version f ≡ member_of program merged plan version (function_at program version.function)
member_at program merged plan version f is = ap (member_of program merged plan version) (sym is)
