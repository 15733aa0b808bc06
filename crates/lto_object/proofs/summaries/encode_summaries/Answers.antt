use Rattle.std.proofs.Common.{[], arith}
use Rattle.lto_object.specs.SummaryStream.{summary_bytes}
use Rattle.lto_object.proofs.LoopSteps.{put_more}
use Rattle.lto_object.proofs.summaries.encode_summaries.Goals as goal

pub loop-summary-preserved : goal.loop-summary-preserved
loop-summary-preserved c =
    let l = c.loop-summary in
    put_more summary_bytes [] l.out.items c.put_summary.new.out.items c.args.summaries.now l.summary-index c.summary-item.result (omega arith) c.summary-item.is l.invariant c.in_ok-put_summary.ensures
