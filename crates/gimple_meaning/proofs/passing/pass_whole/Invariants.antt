use Rattle.std.proofs.Common.{◌≡◌, ◌++◌, All, map}
use Rattle.gimple_meaning.specs.Acts.{value_at}
use Rattle.gimple_meaning.specs.Held.{IsCell}
use Rattle.gimple_meaning.specs.Source.{components_from}
use Rattle.gimple_meaning.proofs.passing.pass_whole.Given as goal

abbrev pub invariant-loop-place : goal.invariant-loop-place
invariant-loop-place l =
    (l.values.items ≡ l.initial.values.items ++ map (value_at l.cells) (components_from l.first l.place)) × All IsCell l.values.items
