use Rattle.std.proofs.Common.{◌≡◌, ◌+◌, ◌-◌, ◌<◌, ◌≤◌, ◌⊎◌, length}
use Rattle.balanced_partition.specs.Cuts.{weight_of}
use Rattle.balanced_partition.proofs.versions.Versions.reach.Given as goal

abbrev pub invariant-loop-place : goal.invariant-loop-place
invariant-loop-place l = (l.from < l.place) × (l.place ≤ length l.self.sizes.now) × ((l.place ≡ l.from + 1) ⊎ (weight_of l.self.sizes.now l.from l.place ≤ l.self.aim))

abbrev pub decreases-loop-place : goal.decreases-loop-place
decreases-loop-place l = l.count - l.place
