use Rattle.std.proofs.Common.{◌∙◌, ap}
use Rattle.ipa_plan.specs.Plans.{versions_by}
use Rattle.ipa_plan.proofs.PlanLaws.{plan_made, plan_law}
use Rattle.ipa_plan.proofs.planning.plan.Goals as goal

pub returns-clause-plan : goal.returns-clause-plan
returns-clause-plan c =
    let merged = c.args.merged.now in
    let versions = c.in_ok-versions.ensures ∙ ap (versions_by merged) c.in_ok-numbering.ensures.live in
    plan_made merged c.in_ok-live.live c.in_ok-versions.field-0 c.in_ok-arrays.arrays c.in_ok-live.ensures versions c.in_ok-arrays.ensures.exact

pub returns-clause-planned : goal.returns-clause-planned
returns-clause-planned c =
    let merged = c.args.merged.now in
    let versions = c.in_ok-versions.ensures ∙ ap (versions_by merged) c.in_ok-numbering.ensures.live in
    plan_law merged _ c.requires (plan_made merged c.in_ok-live.live c.in_ok-versions.field-0 c.in_ok-arrays.arrays c.in_ok-live.ensures versions c.in_ok-arrays.ensures.exact)
