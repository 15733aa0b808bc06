-- The laws of the versions of a whole program, under any plan that keeps to the rules.
use Rattle.std.specs.Prelude.{ℕ, List}
use Rattle.gimple_ir.specs.declared.types.Program.{Program}
use Rattle.gimple_ir.specs.declared.plan.Plan.{Plan}
use Rattle.gimple_ir.specs.declared.merged.Merged.{Merged}
use Rattle.gimple_meaning.specs.Run.{src}
use Rattle.gimple_meaning.specs.Keeping.{Keeps}
use Rattle.func_summary.specs.Summarised.{IsSummarised}
use Rattle.ipa_plan.specs.Rules.{IsPlanned}
use Rattle.gimple_meaning.specs.Typed.{ProgramTyped}
use Rattle.version_laws.specs.States.{versions_view}
use Rattle.gimple_meaning.specs.Linked.{linked_run}
use Rattle.version_laws.specs.Linked.{linked}

-- after each number of steps the versions stand for the source
abbrev pub VersionsLaw : Type 0
VersionsLaw =
    (p : Program) (merged : Merged) (plan : Plan) → IsSummarised p merged → IsPlanned merged plan → (input : List ℕ)
    → Keeps (versions_view p plan) (src p input) (linked_run (linked p merged plan) input)

-- they are a well formed program of versions
abbrev pub TypedLaw : Type 0
TypedLaw = (p : Program) (merged : Merged) (plan : Plan) → IsSummarised p merged → IsPlanned merged plan → ProgramTyped (linked p merged plan)
