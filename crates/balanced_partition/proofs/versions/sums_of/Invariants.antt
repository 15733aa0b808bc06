use Rattle.balanced_partition.proofs.Keeping.{AreSumsTo}
use Rattle.balanced_partition.proofs.versions.sums_of.Given as goal

abbrev pub invariant-loop-size : goal.invariant-loop-size
invariant-loop-size l = AreSumsTo l.sizes l.sums.items l.size-index l.total
