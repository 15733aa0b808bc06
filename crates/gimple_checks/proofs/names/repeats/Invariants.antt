use Rattle.std.proofs.Common.{◌≡◌, ℕ, List, map, take, drop}
use Rattle.gimple_ir.specs.Names.{is_among, repeats, repeats_after}
use Rattle.gimple_checks.specs.Seen.{holds}
use Rattle.gimple_checks.proofs.names.repeats.Given as goal

abbrev pub invariant-loop-item : goal.invariant-loop-item
invariant-loop-item g l = record {
  seen : (q : List ℕ) → holds l.seen q ≡ is_among (take l.item-index (map g.T.Named.name_of l.items)) q;
  rest : repeats (map g.T.Named.name_of l.items) ≡ repeats_after (take l.item-index (map g.T.Named.name_of l.items)) (drop l.item-index (map g.T.Named.name_of l.items));
}
