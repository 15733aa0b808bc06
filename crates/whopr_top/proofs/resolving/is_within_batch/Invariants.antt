use Rattle.std.proofs.Common.{◌≡◌, drop, length}
use Rattle.std.specs.Prelude.{nat_le, sum_by, ◌^◌}
use Rattle.whopr_top.specs.Reads.{contents_of}
use Rattle.whopr_top.proofs.resolving.is_within_batch.Given as goal

-- the files that are left fit what is left where all fit all
abbrev pub invariant-loop-bytes : goal.invariant-loop-bytes
invariant-loop-bytes l = nat_le (sum_by length (contents_of (drop l.bytes-index l.contents))) l.left ≡ nat_le (sum_by length (contents_of l.contents)) (2 ^ 28)
