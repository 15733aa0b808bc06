use Rattle.std.proofs.Common.{reverse, arith}
use Rattle.lto_object.specs.ObjectReading.{filled}
use Rattle.lto_object.proofs.LoopSteps.{filled_more}
use Rattle.lto_object.proofs.streams.filled.Goals as goal

pub loop-function-preserved : goal.loop-function-preserved
loop-function-preserved c =
    let l = c.loop-function in
    filled_more c.args.functions.now l.function-index c.function-item.result c.in_ok-with_body.field-0 c.body_for-body.result (reverse l.rest.items) (reverse c.body_for-body.new.rest.items) l.all c.push.new.self
    (filled c.args.functions.now (reverse c.args.rest.items)) (omega arith) c.function-item.is c.body_for-body.ensures.value c.body_for-body.ensures.rest c.in_ok-with_body.ensures c.in_ok-push.ensures.ok l.invariant
