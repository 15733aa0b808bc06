use Rattle.std.proofs.Common.{ap, ◌∙◌, sym}
use Rattle.std.specs.Prelude.{slice_get}
use Rattle.gimple_ir.specs.Statements.{statement_kind}
use Rattle.gimple_ir.specs.Checks.{fault_at}
use Rattle.gimple_checks.proofs.Faults.{faults-none, faults-some}
use Rattle.gimple_checks.proofs.items.statements_fault.Goals as goal

pub returns-in-Some : goal.returns-in-Some
returns-in-Some c =
    let here = ap (λ f. slice_get f.body c.loop-place.place) (sym c.function.ensures.value) ∙ c.get.ensures in
    let is = ap (fault_at c.args.item c.loop-place.place) (sym c.statement_kind.ensures ∙ c.in-Some.is) ∙ c.fault_at.ensures in
    sym (c.loop-place.invariant
    ∙ faults-some (λ place st. fault_at c.args.item place (statement_kind c.args.scope.now st)) c.args.scope.now.function.body
    c.loop-place.place c.get.result.now c.fault_at.result here is)

pub loop-place-preserved : goal.loop-place-preserved
loop-place-preserved c =
    let here = ap (λ f. slice_get f.body c.loop-place.place) (sym c.function.ensures.value) ∙ c.get.ensures in
    let is = ap (fault_at c.args.item c.loop-place.place) (sym c.statement_kind.ensures ∙ c.in_default.is) in
    c.loop-place.invariant
    ∙ faults-none (λ place st. fault_at c.args.item place (statement_kind c.args.scope.now st)) c.args.scope.now.function.body
    c.loop-place.place c.get.result.now here is
