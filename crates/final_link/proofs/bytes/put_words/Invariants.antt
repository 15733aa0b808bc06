use Rattle.std.proofs.Common.{◌≡◌, ◌+◌, ◌*◌, ◌++◌, take, vec_len}
use Rattle.std.specs.List.{flat_map}
use Rattle.final_link.specs.Image.{word}
use Rattle.final_link.proofs.bytes.put_words.Given as goal

abbrev pub invariant-loop-value : goal.invariant-loop-value
invariant-loop-value l = record {
  bytes : l.out.items ≡ l.initial.out.items ++ flat_map word (take l.value-index l.values);
  len : vec_len l.out ≡ vec_len l.initial.out + 4 * l.value-index;
}
