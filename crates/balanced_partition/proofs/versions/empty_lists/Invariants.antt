use Rattle.std.proofs.Common.{[]}
use Rattle.balanced_partition.specs.Tables.{AreEnds}
use Rattle.balanced_partition.proofs.versions.empty_lists.Given as goal

abbrev pub invariant-loop-capacity : goal.invariant-loop-capacity
invariant-loop-capacity l = AreEnds [] l.capacity-index l.lists.items
