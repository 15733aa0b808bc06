use Rattle.std.proofs.Common.{take}
use Rattle.balanced_partition.specs.Tables.{AreEnds}
use Rattle.balanced_partition.proofs.versions.ends_of.Given as goal

abbrev pub invariant-loop-call : goal.invariant-loop-call
invariant-loop-call l = AreEnds (take l.call-index l.calls) l.count l.ends.items
