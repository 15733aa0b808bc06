use Rattle.std.proofs.Common.{◌<◌, ℕ, List, length, ◌∙◌, ap, ap₂, sym, arith, subst}
use Rattle.std.specs.Option.{option_map_or}
use Rattle.gimple_ir.specs.declared.summary.Edge.{Edge}
use Rattle.gimple_ir.specs.declared.plan.CallPlan.{CallPlan}
use Rattle.gimple_ir.specs.declared.merged.MergedFunction.{MergedFunction}
use Rattle.func_summary.proofs.Checked.{all_at}
use Rattle.ipa_plan.specs.Plans.{all_of, call_plan, IsPlannedFunction}
use Rattle.ipa_plan.proofs.Listing.{mapped_more}
use Rattle.ipa_plan.proofs.versions.calls.Goals as goal

pub get-callee-requires : goal.get-callee-requires
get-callee-requires c =
    subst (λ (e : Edge). e.callee < length c.args.merged.now.functions) (sym c.edge-item.is) (c.requires.callees c.loop-edge.edge-index c.edge-item.result c.loop-edge-test.true)

pub place-requires-clause-function : goal.place-requires-clause-function
place-requires-clause-function c =
    let within = subst (λ (e : Edge). e.callee < length c.args.merged.now.functions) (sym c.edge-item.is) (c.requires.callees c.loop-edge.edge-index c.edge-item.result c.loop-edge-test.true) in
    omega (arith, within, c.requires.live)

pub overflow_cast-len : goal.overflow_cast-len
overflow_cast-len c =
    let callee = all_at IsPlannedFunction c.args.merged.now.functions c.requires.functions c.edge-item.result.callee c.get-callee.result.now c.get-callee.ensures in
    omega (arith, c.len.ensures, callee.parameters)

pub loop-edge-preserved : goal.loop-edge-preserved
loop-edge-preserved c =
    let merged = c.args.merged.now in
    let live = c.args.numbering.now.live in
    let item = c.edge-item.result in
    let count = c.len.ensures ∙ sym (ap (λ o. option_map_or (λ (g : MergedFunction). length g.summary.params) o 0) c.get-callee.ensures) in
    let kept = c.in_ok-all_of.ensures ∙ ap all_of count in
    let made = ap₂ (λ (t : ℕ) (k : List ℕ). let p : CallPlan = record { target = t; kept = k } in p) c.place.ensures kept in
    mapped_more (call_plan merged live) c.args.edges.now c.loop-edge.edge-index item _ c.loop-edge.calls.items _ c.loop-edge-test.true c.edge-item.is made
    c.loop-edge.invariant c.in_ok-push.ensures.items
