use Rattle.std.proofs.Common.{◌≡◌, ◌++◌, drop}
use Rattle.symbol_resolution.specs.Groups.{named}
use Rattle.symbol_resolution.specs.Numbers.{merged_array_numbers}
use Rattle.symbol_resolution.proofs.program.array_numbers.Given as goal

abbrev pub invariant-loop-number : goal.invariant-loop-number
invariant-loop-number l = named l.numbers.items ++ merged_array_numbers l.number (drop l.number l.arrays) ≡ merged_array_numbers 0 l.arrays
