use Rattle.module_stream.specs.Readers.{repeated}
use Rattle.module_stream.proofs.Repeats.{after_none}
use Rattle.module_stream.proofs.decode.repeated.Goals as goal

pub returns : goal.returns
returns g c = after_none c.new.result c.repeated_after.result c.repeated_after.new.cursor (repeated (g.D.Decode.reads c.args.field.now) c.args.count c.args.cursor.now) c.new.ensures c.repeated_after.ensures
