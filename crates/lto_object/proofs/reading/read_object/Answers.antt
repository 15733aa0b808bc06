use Rattle.std.proofs.Common.{arith}
use Rattle.lto_object.proofs.ReadLaws.{object_read, gives_only}
use Rattle.lto_object.proofs.reading.read_object.Goals as goal

pub returns-clause-only : goal.returns-clause-only
returns-clause-only c = λ m checked e. gives_only c.object.result c.args.bytes.now m (object_read m c.args.bytes.now checked (omega (arith, c.requires)) e) c.object.ensures.exact
