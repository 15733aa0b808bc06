use Rattle.std.proofs.Common.{◌-◌}
use Rattle.module_stream.specs.Readers.{repeated}
use Rattle.module_stream.specs.BodyReading.{arg_at}
use Rattle.module_stream.proofs.Repeats.{SoFar}
use Rattle.module_stream.proofs.operands.repeated_args.Given as goal

abbrev pub invariant-more : goal.invariant-more
invariant-more l = SoFar (arg_at l.bounds) l.args (l.count - l.counter) l.cursor (repeated (arg_at l.bounds) l.count l.fn.cursor)
