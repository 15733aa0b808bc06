use Rattle.std.proofs.Common.{arith}
use Rattle.lto_object.proofs.LoopSteps.{copied_more}
use Rattle.lto_object.proofs.streams.names.Goals as goal

pub loop-name-preserved : goal.loop-name-preserved
loop-name-preserved c =
    let l = c.loop-name in
    copied_more l.copied c.push.new.self c.args.names.now l.name-index c.name-item.result c.in_ok-copy.field-0 (omega arith) c.name-item.is l.invariant c.in_ok-push.ensures.ok c.in_ok-copy.ensures
