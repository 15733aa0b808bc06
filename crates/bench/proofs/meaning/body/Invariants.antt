use Rattle.std.proofs.Common.{All}
use Rattle.gimple_ir.specs.Programs.{HasValues}
use Rattle.bench.proofs.meaning.body.Given as goal

abbrev pub invariant-loop-made : goal.invariant-loop-made
invariant-loop-made l = All HasValues l.body.items
