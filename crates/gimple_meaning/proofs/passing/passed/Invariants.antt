use Rattle.std.proofs.Common.{◌≡◌, All, map, take}
use Rattle.std.specs.List.{flat_map}
use Rattle.gimple_meaning.specs.Acts.{value_at}
use Rattle.gimple_meaning.specs.Held.{IsCell}
use Rattle.gimple_meaning.specs.Source.{operands_of}
use Rattle.gimple_meaning.proofs.passing.passed.Given as goal

abbrev pub invariant-loop-arg : goal.invariant-loop-arg
invariant-loop-arg l =
    (l.values.items ≡ map (value_at l.cells) (flat_map (operands_of l.layout.variables) (take l.arg-index l.arg-items))) × All IsCell l.values.items
