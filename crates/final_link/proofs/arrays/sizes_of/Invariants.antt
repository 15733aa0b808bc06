use Rattle.std.proofs.Common.{◌≡◌, drop}
use Rattle.final_link.specs.Arrays.{size_of}
use Rattle.final_link.specs.Symbols.{end_of}
use Rattle.final_link.proofs.arrays.sizes_of.Given as goal

abbrev pub invariant-loop-number : goal.invariant-loop-number
invariant-loop-number l = end_of (size_of l.merged) l.end (drop l.number-index l.numbers) ≡ end_of (size_of l.merged) 0 l.numbers
