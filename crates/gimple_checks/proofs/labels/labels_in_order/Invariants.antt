use Rattle.std.proofs.Common.{◌≡◌, ◌+◌, length, drop}
use Rattle.std.specs.List.{filter_map}
use Rattle.gimple_ir.specs.Checks.{label_of, counts_up}
use Rattle.gimple_checks.proofs.labels.labels_in_order.Given as goal

abbrev pub invariant-loop-place : goal.invariant-loop-place
invariant-loop-place l = record {
  order : counts_up 0 (filter_map label_of l.body) ≡ counts_up l.next (filter_map label_of (drop l.place l.body));
  count : length (filter_map label_of l.body) ≡ l.next + length (filter_map label_of (drop l.place l.body));
}
