use Rattle.std.proofs.Common.{◌≡◌}
use Rattle.balanced_partition.specs.Cuts.{cut_calls}
use Rattle.balanced_partition.proofs.Choosing.{IsBest}
use Rattle.balanced_partition.proofs.versions.Versions.best.Given as goal

abbrev pub invariant-loop-version : goal.invariant-loop-version
invariant-loop-version l = (l.crossing ≡ cut_calls l.self.calls.now l.from l.version) × IsBest l.self.sizes.now l.self.calls.now l.self.aim l.from l.reach l.version l.cut l.fewest
