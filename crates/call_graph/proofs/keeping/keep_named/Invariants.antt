use Rattle.std.proofs.Common.{◌≡◌, ◌||◌, ℕ, length, take, nat_eq}
use Rattle.std.specs.List.{list_any}
use Rattle.call_graph.specs.Live.{marked}
use Rattle.call_graph.proofs.keeping.keep_named.Given as goal

abbrev pub invariant-loop-array : goal.invariant-loop-array
invariant-loop-array l = record {
  len : length l.kept.items ≡ length l.fn.kept.items;
  kept : (k : ℕ) → marked l.kept.items k ≡ (marked l.fn.kept.items k || list_any (λ a. nat_eq a k) (take l.array-index l.arrays));
}
