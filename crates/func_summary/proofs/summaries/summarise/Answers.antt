use Rattle.func_summary.proofs.Checked.{ready}
use Rattle.func_summary.proofs.summaries.summarise.Goals as goal

pub summary-requires : goal.summary-requires
summary-requires c = ready c.args.source.now c.args.function c.get.result.now c.requires.checked c.get.ensures
