use Rattle.std.proofs.Common.{◌≡◌, ◌++◌, drop, map}
use Rattle.symbol_resolution.specs.Kept.{kept_arrays_in}
use Rattle.symbol_resolution.specs.Merging.{merged_array}
use Rattle.symbol_resolution.proofs.merging.push_arrays.Given as goal

abbrev pub invariant-loop-place : goal.invariant-loop-place
invariant-loop-place l =
    l.merged ++ map merged_array (kept_arrays_in l.marks l.object l.place (drop l.place l.arrays)) ≡ l.fn.merged ++ map merged_array (kept_arrays_in l.marks l.object 0 l.arrays)
