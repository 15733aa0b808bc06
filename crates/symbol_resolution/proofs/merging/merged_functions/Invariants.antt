use Rattle.std.proofs.Common.{◌≡◌, ◌++◌, drop, map}
use Rattle.symbol_resolution.specs.Kept.{kept_functions}
use Rattle.symbol_resolution.specs.Merging.{merged_function}
use Rattle.symbol_resolution.proofs.merging.merged_functions.Given as goal

abbrev pub invariant-loop-object : goal.invariant-loop-object
invariant-loop-object l =
    l.merged ++ map (merged_function l.functions l.arrays) (kept_functions l.marks l.object (drop l.object l.objects)) ≡ map (merged_function l.functions l.arrays) (kept_functions l.marks 0 l.objects)
