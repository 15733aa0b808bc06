use Rattle.std.proofs.Common.{◌≡◌, map, take}
use Rattle.gimple_syntax.specs.Items.{arity}
use Rattle.gimple_syntax.proofs.items.arities.Given as goal

abbrev pub invariant-loop-head : goal.invariant-loop-head
invariant-loop-head l = l.arities.items ≡ map arity (take l.head-index l.heads)
