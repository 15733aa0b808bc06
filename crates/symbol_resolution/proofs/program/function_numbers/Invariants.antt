use Rattle.std.proofs.Common.{◌≡◌, ◌++◌, drop}
use Rattle.symbol_resolution.specs.Groups.{named}
use Rattle.symbol_resolution.specs.Numbers.{merged_function_numbers}
use Rattle.symbol_resolution.proofs.program.function_numbers.Given as goal

abbrev pub invariant-loop-number : goal.invariant-loop-number
invariant-loop-number l = named l.numbers.items ++ merged_function_numbers l.objects l.number (drop l.number l.functions) ≡ merged_function_numbers l.objects 0 l.functions
