use Rattle.std.proofs.Common.{arith}
use Rattle.module_stream.specs.Bodies.{body_of}
use Rattle.lto_object.proofs.LoopSteps.{mapped_more}
use Rattle.lto_object.proofs.streams.slices.Goals as goal

pub loop-body-preserved : goal.loop-body-preserved
loop-body-preserved c =
    let l = c.loop-body in
    mapped_more (λ b. b.now) body_of l.slices.items c.push.new.self.items c.args.bodies.now l.body-index c.body-item.result c.bytes.result (omega arith) c.body-item.is l.invariant c.in_ok-push.ensures.items c.bytes.ensures
