-- A plan that keeps to the rules and is not today's: of a function that is called twice there is a version for a constant, a component
-- that nobody needs is passed to none, and a result that nobody takes is given by none. In C:
--
--     static int f (int a, int b) { putchar (a); return 0; }
--     int main () { f (3, 7); f (getchar (), 8); return 0; }
use Rattle.std.specs.Prelude.{ℕ, pos, List, [], ◌∷◌, None, Bool, true, false, codes}
use Rattle.gimple_ir.specs.declared.types.ScalarType.{ScalarType}
use Rattle.gimple_ir.specs.declared.types.ScalarType.TheVariants.{Int}
use Rattle.gimple_ir.specs.declared.types.ResultType.TheVariants as returned
use Rattle.gimple_ir.specs.declared.types.Value.{Value}
use Rattle.gimple_ir.specs.declared.lattice.Lattice.TheVariants.{Const, Bottom}
use Rattle.gimple_ir.specs.declared.lattice.Binding.TheVariants as binding
use Rattle.gimple_ir.specs.declared.summary.JumpFunction.{JumpFunction}
use Rattle.gimple_ir.specs.declared.summary.JumpFunction.TheVariants as jump
use Rattle.gimple_ir.specs.declared.summary.EdgeArg.{EdgeArg}
use Rattle.gimple_ir.specs.declared.summary.Edge.{Edge}
use Rattle.gimple_ir.specs.declared.summary.ParamFacts.{ParamFacts}
use Rattle.gimple_ir.specs.declared.summary.Summary.{Summary}
use Rattle.gimple_ir.specs.declared.merged.Merged.{Merged}
use Rattle.gimple_ir.specs.declared.merged.MergedFunction.{MergedFunction}
use Rattle.gimple_ir.specs.declared.plan.Version.{Version}
use Rattle.gimple_ir.specs.declared.plan.Plan.{Plan}
use Rattle.ipa_plan.specs.Rules.{symbol_of, IsPlanned}

abbrev pub int : ℕ → Value
int n = record { ty = Int; num = pos n }

-- ---- the merged program

abbrev pub argument : JumpFunction → EdgeArg
argument given = record { jump = given; source = None }

-- a call of f, whose result nobody takes
abbrev pub call_of_f : ℕ → JumpFunction → JumpFunction → Edge
call_of_f statement a b = record { statement = statement; callee = 1; assigns = false; args = argument a ∷ argument b ∷ [] }

abbrev pub used : ℕ → Bool → ParamFacts
used weight here = record { weight = weight; used_here = here }

abbrev pub main_summary : Summary
main_summary = record {
  code_bound = 240;
  params = [];
  arrays = [];
  edges = call_of_f 0 (jump.Const (int 3)) (jump.Const (int 7)) ∷ call_of_f 2 jump.Unknown (jump.Const (int 8)) ∷ [];
}

-- its second component is read by nobody
abbrev pub f_summary : Summary
f_summary = record { code_bound = 192; params = used 1 true ∷ used 0 false ∷ []; arrays = []; edges = [] }

abbrev pub function : ℕ → List ℕ → Bool → List ScalarType → Summary → MergedFunction
function place name exported types summary =
    record { object = 0; place = place; name = name; exported = exported; result = returned.Scalar Int; parameter_types = types; summary = summary }

abbrev pub merged : Merged
merged = record {
  functions = function 0 (codes "main") true [] main_summary ∷ function 1 (codes "f") false (Int ∷ Int ∷ []) f_summary ∷ [];
  arrays = [];
  main = 0;
}

-- ---- its plan

abbrev pub main_version : Version
main_version = record {
  function = 0;
  number = 0;
  vector = [];
  bindings = [];
  result = true;
  symbol = symbol_of (codes "main") 0 0 false;
  size = 240;
  calls = record { target = 2; kept = [] } ∷ record { target = 1; kept = 0 ∷ [] } ∷ [];
}

-- for any first argument: `f.1.isra.0`
abbrev pub f_version : Version
f_version = record {
  function = 1;
  number = 0;
  vector = Bottom ∷ Bottom ∷ [];
  bindings = binding.Arg 0 ∷ binding.Dead ∷ [];
  result = false;
  symbol = symbol_of (codes "f") 1 0 true;
  size = 192;
  calls = [];
}

-- for 3: `f.1.constprop.1.isra.0`
abbrev pub constant_version : Version
constant_version = record {
  function = 1;
  number = 1;
  vector = Const (int 3) ∷ Bottom ∷ [];
  bindings = binding.Const (int 3) ∷ binding.Dead ∷ [];
  result = false;
  symbol = symbol_of (codes "f") 1 1 true;
  size = 192;
  calls = [];
}

abbrev pub plan : Plan
plan = record { versions = main_version ∷ f_version ∷ constant_version ∷ []; arrays = []; code = 1 }

-- ---- what is shown of it

abbrev pub ExamplePlanned : Type 0
ExamplePlanned = IsPlanned merged plan
