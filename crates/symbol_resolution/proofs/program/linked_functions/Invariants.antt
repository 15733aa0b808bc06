use Rattle.std.proofs.Common.{◌≡◌, ◌++◌, drop}
use Rattle.std.specs.List.{filter_map}
use Rattle.symbol_resolution.specs.Merging.{program_function}
use Rattle.symbol_resolution.proofs.program.linked_functions.Given as goal

abbrev pub invariant-loop-function : goal.invariant-loop-function
invariant-loop-function l =
    l.functions ++ filter_map (program_function l.objects l.numbers l.arrays) (drop l.function-index l.merged) ≡ filter_map (program_function l.objects l.numbers l.arrays) l.merged
