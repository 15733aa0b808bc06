use Rattle.std.proofs.Common.{arith}
use Rattle.text_lines.proofs.Lengths.{length-lines_of}
use Rattle.text_lines.proofs.lines.LineReader.new.Goals as goal

pub invariant_of-result : goal.invariant_of-result
invariant_of-result c = rw c.new.ensures (omega (arith, length-lines_of c.args.text.now))
