use Rattle.std.proofs.Common.{◌≡◌, ◌++◌, drop}
use Rattle.std.specs.List.{flat_map}
use Rattle.rv64_select.specs.Assembly.{pair_items}
use Rattle.rv64_select.proofs.steps.put_pairs.Given as goal

abbrev pub invariant-loop-pair : goal.invariant-loop-pair
invariant-loop-pair l = l.out.items ++ flat_map (pair_items l.layout) (drop l.pair-index l.pairs) ≡ l.initial.out.items ++ flat_map (pair_items l.layout) l.pairs
