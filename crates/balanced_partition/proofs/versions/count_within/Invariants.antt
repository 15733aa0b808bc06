use Rattle.std.proofs.Common.{◌≡◌, take, count_by}
use Rattle.balanced_partition.specs.Cuts.{is_within}
use Rattle.balanced_partition.proofs.versions.count_within.Given as goal

abbrev pub invariant-loop-number : goal.invariant-loop-number
invariant-loop-number l = l.count ≡ count_by (is_within l.from l.to) (take l.number-index l.numbers)
