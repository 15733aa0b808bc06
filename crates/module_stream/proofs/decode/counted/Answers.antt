use Rattle.module_stream.proofs.Repeats.{few_repeated}
use Rattle.module_stream.proofs.decode.counted.Goals as goal

pub returns-clause-count : goal.returns-clause-count
returns-clause-count g c = few_repeated (g.D.Decode.reads c.args.field.now) c.in_ok-count.count _ c.repeated.new.cursor c.repeated.result c.in_ok-count.ensures.below c.repeated.ensures
