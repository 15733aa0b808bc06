-- The laws of the plan of a merged program. What is known of any plan stands in `Rules`.
use Rattle.std.specs.Prelude.{◌≡◌}
use Rattle.gimple_ir.specs.declared.types.Program.{Program}
use Rattle.gimple_ir.specs.declared.plan.Plan.{Plan}
use Rattle.gimple_ir.specs.declared.merged.Merged.{Merged}
use Rattle.func_summary.specs.Summarised.{IsSummarised}
use Rattle.ipa_plan.specs.Plans.{IsPlanOf, CanBePlanned}
use Rattle.ipa_plan.specs.Rules.{IsPlanned}

-- it keeps the rules
abbrev pub PlanLaw : Type 0
PlanLaw = (merged : Merged) (plan : Plan) → CanBePlanned merged → IsPlanOf merged plan → IsPlanned merged plan

-- a merged program that is true of a program can be planned
abbrev pub SummarisedLaw : Type 0
SummarisedLaw = (p : Program) (merged : Merged) → IsSummarised p merged → CanBePlanned merged

-- there is one plan
abbrev pub OnePlan : Type 0
OnePlan = (merged : Merged) (a b : Plan) → IsPlanOf merged a → IsPlanOf merged b → a ≡ b
