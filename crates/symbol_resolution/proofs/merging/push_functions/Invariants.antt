use Rattle.std.proofs.Common.{◌≡◌, ◌++◌, drop, map}
use Rattle.symbol_resolution.specs.Kept.{kept_functions_in}
use Rattle.symbol_resolution.specs.Merging.{merged_function}
use Rattle.symbol_resolution.proofs.merging.push_functions.Given as goal

abbrev pub invariant-loop-place : goal.invariant-loop-place
invariant-loop-place l =
    l.merged ++ map (merged_function l.functions l.arrays) (kept_functions_in l.marks l.object l.item.source l.place (drop l.place l.item.source.functions))
    ≡ l.fn.merged ++ map (merged_function l.functions l.arrays) (kept_functions_in l.marks l.object l.item.source 0 l.item.source.functions)
