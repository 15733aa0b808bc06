use Rattle.std.proofs.Common.{◌≡◌, ◌++◌, drop, map}
use Rattle.symbol_resolution.specs.Kept.{kept_arrays}
use Rattle.symbol_resolution.specs.Merging.{merged_array}
use Rattle.symbol_resolution.proofs.merging.merged_arrays.Given as goal

abbrev pub invariant-loop-object : goal.invariant-loop-object
invariant-loop-object l = l.merged ++ map merged_array (kept_arrays l.marks l.object (drop l.object l.objects)) ≡ map merged_array (kept_arrays l.marks 0 l.objects)
