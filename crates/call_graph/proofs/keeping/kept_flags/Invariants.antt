use Rattle.std.proofs.Common.{◌≡◌, ◌||◌, ℕ, length, drop}
use Rattle.call_graph.specs.Live.{marked}
use Rattle.call_graph.specs.Keeping.{is_named, is_kept}
use Rattle.call_graph.proofs.keeping.kept_flags.Given as goal

abbrev pub invariant-loop-place : goal.invariant-loop-place
invariant-loop-place l = record {
  len : length l.kept.items ≡ length l.merged.arrays;
  kept : (a : ℕ) → (marked l.kept.items a || is_named (drop l.place l.live) (drop l.place l.merged.functions) a) ≡ is_kept l.merged l.live a;
}
