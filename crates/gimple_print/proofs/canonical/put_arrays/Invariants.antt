use Rattle.std.proofs.Common.{◌≡◌, ◌++◌, take}
use Rattle.std.specs.List.{flat_map}
use Rattle.gimple_print.specs.Canonical.{array_text}
use Rattle.gimple_print.proofs.canonical.put_arrays.Given as goal

abbrev pub invariant-loop-array : goal.invariant-loop-array
invariant-loop-array l = l.out.items ≡ l.initial.out.items ++ flat_map array_text (take l.array-index l.arrays)
