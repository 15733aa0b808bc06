use Rattle.std.proofs.Common.{◌≡◌, ◌++◌, drop}
use Rattle.final_link.specs.Arrays.{array_symbol, size_of}
use Rattle.final_link.specs.Symbols.{end_of, places_of}
use Rattle.final_link.proofs.arrays.symbols_from.Given as goal

abbrev pub invariant-loop-number : goal.invariant-loop-number
invariant-loop-number l = record {
  end : end_of (size_of l.merged) l.address (drop l.number-index l.numbers) ≡ end_of (size_of l.merged) l.at l.numbers;
  symbols : l.symbols.items ++ places_of (array_symbol l.merged) (size_of l.merged) l.address (drop l.number-index l.numbers)
      ≡ places_of (array_symbol l.merged) (size_of l.merged) l.at l.numbers;
}
