use Rattle.std.proofs.Common.{◌≡◌, map, take}
use Rattle.gimple_syntax.specs.Items.{array_of, arrays_in}
use Rattle.gimple_syntax.proofs.modules.arrays_of.Given as goal

abbrev pub invariant-loop-item : goal.invariant-loop-item
invariant-loop-item l = l.found ≡ map array_of (arrays_in (take l.item-index l.items))
