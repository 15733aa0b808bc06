use Rattle.std.proofs.Common.{◌≡◌, take}
use Rattle.gimple_meaning.specs.Systems.{first_arrays}
use Rattle.gimple_meaning.proofs.arrays.all_numbers.Given as goal

abbrev pub invariant-loop-array : goal.invariant-loop-array
invariant-loop-array l = l.numbers.items ≡ first_arrays (take l.array-index l.declared)
