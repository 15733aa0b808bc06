use Rattle.std.proofs.Common.{◌-◌}
use Rattle.balanced_partition.proofs.Keeping.{AreRangesTo}
use Rattle.balanced_partition.proofs.cutting.cut.Given as goal

abbrev pub invariant-loop-from : goal.invariant-loop-from
invariant-loop-from l = AreRangesTo l.versions.sizes.now l.versions.calls.now l.versions.aim l.ranges l.from

abbrev pub decreases-loop-from : goal.decreases-loop-from
decreases-loop-from l = l.count - l.from
