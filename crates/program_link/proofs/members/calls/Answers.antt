use Rattle.std.proofs.Common.{ℕ, List, [], ◌<◌, ◌∙◌, ap, ap₂, sym, subst, length}
use Rattle.std.specs.Option.{option_map_or}
use Rattle.gimple_ir.specs.declared.unit.CallUse.{CallUse}
use Rattle.gimple_ir.specs.declared.plan.CallPlan.{CallPlan}
use Rattle.gimple_ir.specs.declared.plan.Version.{Version}
use Rattle.program_link.specs.Versions.{call_use}
use Rattle.program_link.proofs.Listing.{mapped_more}
use Rattle.program_link.proofs.members.calls.Goals as goal

pub get-requires : goal.get-requires
get-requires c =
    subst (λ (x : CallPlan). x.target < length c.args.plan.now.versions) (sym c.call-item.is) (c.requires c.loop-call.call-index c.call-item.result c.loop-call-test.true)

pub loop-call-preserved : goal.loop-call-preserved
loop-call-preserved c =
    let plan = c.args.plan.now in
    let item = c.call-item.result in
    let symbol = c.in_ok-copy.ensures ∙ sym (ap (λ o. option_map_or (λ (v : Version). v.symbol) o []) c.get.ensures) in
    let made = ap₂ (λ (s k : List ℕ). let u : CallUse = record { symbol = s; kept = k } in u) symbol c.in_ok-copy-2.ensures in
    mapped_more (call_use plan) c.args.calls.now c.loop-call.call-index item _ c.loop-call.uses.items _ c.loop-call-test.true c.call-item.is made
    c.loop-call.invariant c.in_ok-push.ensures.items
