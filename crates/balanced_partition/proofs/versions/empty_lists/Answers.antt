use Rattle.std.proofs.Common.{◌∙◌}
use Rattle.balanced_partition.proofs.Keeping.{empties_more}
use Rattle.balanced_partition.proofs.versions.empty_lists.Goals as goal

pub loop-capacity-preserved : goal.loop-capacity-preserved
loop-capacity-preserved c =
    let empty = c.from_vec.ensures ∙ c.in_ok-with_capacity.ensures.items in
    rw c.in_ok-push.ensures.items (rw empty (empties_more c.loop-capacity.capacity-index c.loop-capacity.lists.items c.loop-capacity.invariant))
