use Rattle.std.proofs.Common.{arith}
use Rattle.func_summary.specs.Summaries.{arrays_in}
use Rattle.lto_object.proofs.LoopSteps.{put_more}
use Rattle.lto_object.proofs.listing.push_arrays.Goals as goal

pub loop-statement-preserved : goal.loop-statement-preserved
loop-statement-preserved c =
    let l = c.loop-statement in
    put_more arrays_in c.args.named.now.items l.named.items c.push_array.new.named.items c.args.body.now l.statement-index c.statement-item.result (omega arith) c.statement-item.is l.invariant c.in_ok-push_array.ensures
