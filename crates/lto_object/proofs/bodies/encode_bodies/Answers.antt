use Rattle.std.proofs.Common.{arith}
use Rattle.lto_object.proofs.LoopSteps.{bodies_more}
use Rattle.lto_object.proofs.bodies.encode_bodies.Goals as goal

pub loop-function-preserved : goal.loop-function-preserved
loop-function-preserved c =
    let l = c.loop-function in
    bodies_more l.out.items c.put_body.new.out.items c.args.functions.now l.function-index c.function-item.result (omega arith) c.function-item.is l.invariant c.in_ok-put_body.ensures
