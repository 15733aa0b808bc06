use Rattle.std.proofs.Common.{◌≡◌, ◌+◌, length, take}
use Rattle.gimple_syntax.specs.Reading.{items_of_sort}
use Rattle.gimple_syntax.proofs.lines.place.Given as goal

abbrev pub invariant-loop-item : goal.invariant-loop-item
invariant-loop-item l = l.number ≡ length (items_of_sort l.sort (take l.item-index l.items)) + l.left
