use Rattle.std.proofs.Common.{◌≡◌, length}
use Rattle.balanced_partition.proofs.versions.call_counts.Given as goal

abbrev pub invariant-loop-call : goal.invariant-loop-call
invariant-loop-call l = length l.counts.items ≡ l.count
