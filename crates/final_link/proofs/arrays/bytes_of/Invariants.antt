use Rattle.std.proofs.Common.{◌≡◌, ◌++◌, drop, vec_len}
use Rattle.std.specs.List.{flat_map}
use Rattle.final_link.specs.Arrays.{bytes_of, size_of}
use Rattle.final_link.specs.Symbols.{end_of}
use Rattle.final_link.proofs.arrays.bytes_of.Given as goal

abbrev pub invariant-loop-number : goal.invariant-loop-number
invariant-loop-number l = record {
  bytes : l.bytes.items ++ flat_map (bytes_of l.merged) (drop l.number-index l.numbers) ≡ flat_map (bytes_of l.merged) l.numbers;
  len : end_of (size_of l.merged) (vec_len l.bytes) (drop l.number-index l.numbers) ≡ end_of (size_of l.merged) 0 l.numbers;
}
