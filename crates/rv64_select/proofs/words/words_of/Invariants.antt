use Rattle.std.proofs.Common.{◌≡◌, ◌+◌, ◌*◌, ◌≤◌, ◌^◌, ◌++◌, map, drop, slice_index}
use Rattle.std.specs.List.{AllByRecursion}
use Rattle.rv64_isa.specs.Words.{InRange, word_of}
use Rattle.rv64_select.specs.Code.{words_in, laid, blank}
use Rattle.rv64_select.proofs.words.words_of.Given as goal

-- the words so far, and those of the rest, are those of all
abbrev pub invariant-loop-item : goal.invariant-loop-item
invariant-loop-item l = record {
  short : l.at + 4 * words_in (drop l.item-index l.items) ≤ 2 ^ 19;
  in_range : AllByRecursion InRange (laid (blank (slice_index l.offsets)) l.at (drop l.item-index l.items));
  words : l.words.items ++ map word_of (laid (blank (slice_index l.offsets)) l.at (drop l.item-index l.items)) ≡ map word_of (laid (blank (slice_index l.offsets)) 0 l.items);
}
