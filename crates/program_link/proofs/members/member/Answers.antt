use Rattle.std.proofs.Common.{◌<◌, length, map, sym, ap, ◌∙◌, subst, arith}
use Rattle.std.specs.Prelude.{All}
use Rattle.gimple_ir.specs.declared.types.Variable.{Variable}
use Rattle.gimple_ir.specs.declared.plan.CallPlan.{CallPlan}
use Rattle.gimple_ir.specs.declared.summary.Summary.{Summary}
use Rattle.gimple_ir.specs.declared.unit.Member.{Member}
use Rattle.func_summary.proofs.Checked.{place_inside}
use Rattle.ipa_transform.specs.Versioned.{versioned_of}
use Rattle.ipa_transform.specs.Members.{IsMember}
use Rattle.gimple_meaning.specs.Versioned.{IsVersioned}
use Rattle.program_link.specs.Versions.{array_use, call_use}
use Rattle.program_link.proofs.VersionFacts.{facts_at, version_facts}
use Rattle.program_link.proofs.Fitting.{member_fits, version_fits}
use Rattle.program_link.proofs.Made.{member_made, member_at}
use Rattle.program_link.proofs.LinkLaws.{uses_known, targets_known}
use Rattle.program_link.proofs.members.member.Goals as goal

pub get-function-requires : goal.get-function-requires
get-function-requires c = (version_facts c.args.program.now c.args.merged.now c.args.plan.now c.requires.version.0 c.args.version.now c.requires.summarised c.requires.version.1).1.inside

pub get-requires : goal.get-requires
get-requires c =
    let version = c.requires.version.1 in
    place_inside c.args.merged.now.functions c.args.version.now.function version.function version.there

pub overflow_cast-labels : goal.overflow_cast-labels
overflow_cast-labels c =
    let known = facts_at c.args.program.now c.args.merged.now c.args.plan.now c.requires.version.0 c.args.version.now c.get-function.result.now c.requires.summarised c.requires.version.1 c.get-function.ensures in
    omega (arith, c.len-labels.ensures, known.facts.few)

pub arrays-requires-clause-known : goal.arrays-requires-clause-known
arrays-requires-clause-known c =
    let p = c.args.program.now in
    let merged = c.args.merged.now in
    let f = c.get-function.result.now in
    let tells = c.requires.summarised.summaries c.args.version.now.function c.get.result.now f c.get.ensures c.get-function.ensures in
    subst (All (λ a. a < length merged.arrays)) (sym (c.as_slice-2.ensures ∙ ap (λ (s : Summary). s.arrays) tells.summary)) (uses_known p merged f c.requires.summarised)

pub calls-requires : goal.calls-requires
calls-requires c =
    let p = c.args.program.now in
    let merged = c.args.merged.now in
    let plan = c.args.plan.now in
    let version = c.args.version.now in
    let f = c.get-function.result.now in
    let known = facts_at p merged plan c.requires.version.0 version f c.requires.summarised c.requires.version.1 c.get-function.ensures in
    subst (All (λ (x : CallPlan). x.target < length plan.versions)) (sym c.as_slice-3.ensures) (targets_known p merged plan c.requires.version.0 version f known)

pub returns-clause-value : goal.returns-clause-value
returns-clause-value c =
    let p = c.args.program.now in
    let merged = c.args.merged.now in
    let plan = c.args.plan.now in
    let version = c.args.version.now in
    let f = c.get-function.result.now in
    let known = facts_at p merged plan c.requires.version.0 version f c.requires.summarised c.requires.version.1 c.get-function.ensures in
    let tells = c.requires.summarised.summaries version.function c.get.result.now f c.get.ensures c.get-function.ensures in
    let variables = c.in_ok-variables.ensures ∙ ap (map (λ (v : Variable). v.types)) c.as_slice.ensures in
    let arrays = c.in_ok-arrays.ensures ∙ ap (map (array_use merged)) (c.as_slice-2.ensures ∙ ap (λ (s : Summary). s.arrays) tells.summary) in
    let calls = c.in_ok-calls.ensures ∙ ap (map (call_use plan)) c.as_slice-3.ensures in
    let body = c.in_ok-body.ensures ∙ c.as_slice-4.ensures in
    member_made p merged plan version f _ _ _ _ _ _ _ c.in_ok-copy.ensures variables c.in_ok-copy-2.ensures c.len-labels.ensures arrays calls body
    ∙ member_at p merged plan version f known.is

pub returns-clause-member : goal.returns-clause-member
returns-clause-member c =
    let p = c.args.program.now in
    let merged = c.args.merged.now in
    let plan = c.args.plan.now in
    let version = c.args.version.now in
    let f = c.get-function.result.now in
    let known = facts_at p merged plan c.requires.version.0 version f c.requires.summarised c.requires.version.1 c.get-function.ensures in
    let tells = c.requires.summarised.summaries version.function c.get.result.now f c.get.ensures c.get-function.ensures in
    let variables = c.in_ok-variables.ensures ∙ ap (map (λ (v : Variable). v.types)) c.as_slice.ensures in
    let arrays = c.in_ok-arrays.ensures ∙ ap (map (array_use merged)) (c.as_slice-2.ensures ∙ ap (λ (s : Summary). s.arrays) tells.summary) in
    let calls = c.in_ok-calls.ensures ∙ ap (map (call_use plan)) c.as_slice-3.ensures in
    let body = c.in_ok-body.ensures ∙ c.as_slice-4.ensures in
    let made = member_made p merged plan version f _ _ _ _ _ _ _ c.in_ok-copy.ensures variables c.in_ok-copy-2.ensures c.len-labels.ensures arrays calls body in
    subst IsMember (sym made) (member_fits p merged plan c.requires.version.0 version f c.requires.summarised known)

pub returns-clause-versioned : goal.returns-clause-versioned
returns-clause-versioned c =
    let p = c.args.program.now in
    let merged = c.args.merged.now in
    let plan = c.args.plan.now in
    let version = c.args.version.now in
    let f = c.get-function.result.now in
    let known = facts_at p merged plan c.requires.version.0 version f c.requires.summarised c.requires.version.1 c.get-function.ensures in
    let tells = c.requires.summarised.summaries version.function c.get.result.now f c.get.ensures c.get-function.ensures in
    let variables = c.in_ok-variables.ensures ∙ ap (map (λ (v : Variable). v.types)) c.as_slice.ensures in
    let arrays = c.in_ok-arrays.ensures ∙ ap (map (array_use merged)) (c.as_slice-2.ensures ∙ ap (λ (s : Summary). s.arrays) tells.summary) in
    let calls = c.in_ok-calls.ensures ∙ ap (map (call_use plan)) c.as_slice-3.ensures in
    let body = c.in_ok-body.ensures ∙ c.as_slice-4.ensures in
    let made = member_made p merged plan version f _ _ _ _ _ _ _ c.in_ok-copy.ensures variables c.in_ok-copy-2.ensures c.len-labels.ensures arrays calls body in
    subst (λ (t : Member). IsVersioned (versioned_of t)) (sym made) (version_fits p merged plan c.requires.version.0 version f c.requires.summarised known)
