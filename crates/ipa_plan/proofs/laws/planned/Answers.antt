use Rattle.ipa_plan.proofs.PlanLaws.{plan_law, one_plan}
use Rattle.ipa_plan.proofs.Plannable.{summarised_law}
use Rattle.ipa_plan.proofs.laws.planned.Goals as goal

pub returns-clause-plan : goal.returns-clause-plan
returns-clause-plan c = plan_law

pub returns-clause-summarised : goal.returns-clause-summarised
returns-clause-summarised c = summarised_law

pub returns-clause-one : goal.returns-clause-one
returns-clause-one c = one_plan
