use Rattle.std.proofs.Common.{◌≡◌, take}
use Rattle.std.specs.List.{filter_map}
use Rattle.gimple_syntax.proofs.items.heads.Given as goal

abbrev pub invariant-loop-item : goal.invariant-loop-item
invariant-loop-item g l = l.found.items ≡ filter_map (λ item. g.T.Sort.head_of item.item) (take l.item-index l.items)
