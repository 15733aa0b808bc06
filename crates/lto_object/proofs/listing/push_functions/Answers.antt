use Rattle.std.proofs.Common.{arith}
use Rattle.lto_object.specs.Objects.{functions_in}
use Rattle.lto_object.proofs.LoopSteps.{put_more}
use Rattle.lto_object.proofs.listing.push_functions.Goals as goal

pub loop-statement-preserved : goal.loop-statement-preserved
loop-statement-preserved c =
    let l = c.loop-statement in
    put_more functions_in c.args.named.now.items l.named.items c.push_function.new.named.items c.args.body.now l.statement-index c.statement-item.result (omega arith) c.statement-item.is l.invariant c.in_ok-push_function.ensures
