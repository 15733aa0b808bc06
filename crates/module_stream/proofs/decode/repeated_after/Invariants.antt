use Rattle.std.proofs.Common.{◌-◌}
use Rattle.module_stream.specs.Readers.{repeated, after}
use Rattle.module_stream.proofs.Repeats.{SoFar}
use Rattle.module_stream.proofs.decode.repeated_after.Given as goal

abbrev pub invariant-more : goal.invariant-more
invariant-more g l = SoFar (g.D.Decode.reads l.field) l.items (l.count - l.counter) l.cursor (after l.fn.items (repeated (g.D.Decode.reads l.field) l.count l.fn.cursor))
