use Rattle.std.proofs.Common.{List, ap, arith}
use Rattle.gimple_ir.specs.declared.summary.Edge.{Edge}
use Rattle.gimple_ir.specs.declared.summary.EdgeArg.{EdgeArg}
use Rattle.lto_object.proofs.LoopSteps.{copied_more}
use Rattle.lto_object.proofs.checks.copy_edges.Goals as goal

pub loop-edge-preserved : goal.loop-edge-preserved
loop-edge-preserved c =
    let l = c.loop-edge in
    let e = c.edge-item.result in
    let made : List EdgeArg → Edge = λ args. record { statement = e.statement; callee = e.callee; assigns = e.assigns; args = args } in
    copied_more l.copied c.push.new.self c.args.edges.now l.edge-index e (made c.in_ok-copy.field-0) (omega arith) c.edge-item.is l.invariant c.in_ok-push.ensures.ok (ap made c.in_ok-copy.ensures)
