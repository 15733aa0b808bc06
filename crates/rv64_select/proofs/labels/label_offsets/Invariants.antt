use Rattle.std.proofs.Common.{◌≡◌, ℕ, ◌+◌, ◌*◌, ◌≤◌, ◌^◌, drop, slice_index, vec_len}
use Rattle.std.specs.List.{AllByRecursion}
use Rattle.rv64_select.specs.Code.{words_in, label_from, label_offset}
use Rattle.rv64_select.specs.Items.{LabelBelow}
use Rattle.rv64_select.proofs.labels.label_offsets.Given as goal

-- the offsets so far, and those of the labels among the rest, are those of all
abbrev pub invariant-loop-item : goal.invariant-loop-item
invariant-loop-item l = record {
  many : vec_len l.offsets ≡ l.labels;
  below : AllByRecursion (LabelBelow l.labels) (drop l.item-index l.items);
  short : l.at + 4 * words_in (drop l.item-index l.items) ≤ 2 ^ 19;
  offsets : (k : ℕ) → label_from k (slice_index l.offsets.items k) l.at (drop l.item-index l.items) ≡ label_offset l.items k;
}
