use Rattle.std.proofs.Common.{◌≡◌, map}
use Rattle.std.specs.List.{range_with_len}
use Rattle.final_link.specs.Arrays.{array_symbol}
use Rattle.program_link.proofs.symbols.array_symbols.Given as goal

abbrev pub invariant-loop-number : goal.invariant-loop-number
invariant-loop-number l = l.symbols ≡ map (array_symbol l.merged) (range_with_len 0 l.number)
