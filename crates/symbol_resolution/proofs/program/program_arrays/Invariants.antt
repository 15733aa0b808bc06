use Rattle.std.proofs.Common.{◌≡◌, ◌++◌, drop, map}
use Rattle.gimple_ir.specs.declared.merged.MergedArray.{MergedArray}
use Rattle.symbol_resolution.proofs.program.program_arrays.Given as goal

abbrev pub invariant-loop-array : goal.invariant-loop-array
invariant-loop-array l = l.items ++ map (λ (a : MergedArray). a.item) (drop l.array-index l.arrays) ≡ map (λ (a : MergedArray). a.item) l.arrays
