use Rattle.std.proofs.Common.{arith}
use Rattle.module_stream.proofs.Exact.{begins_none}
use Rattle.module_stream.proofs.OperandLaws.{AreCounts}
use Rattle.module_stream.proofs.StatementLaws.{body_exact}
use Rattle.module_stream.proofs.body.no_body_begins_another.Goals as goal

pub returns : goal.returns
returns c =
    let counts : AreCounts c.args.bounds.now = record { variables = omega arith; labels = omega arith; arrays = omega arith; functions = omega arith } in
    begins_none (body_exact c.args.bounds.now counts)
