use Rattle.std.proofs.Common.{◌≡◌}
use Rattle.gimple_meaning.specs.Acts.{copied}
use Rattle.gimple_meaning.specs.Source.{pairs_from}
use Rattle.gimple_meaning.proofs.cells.Cells.copy.Given as goal

abbrev pub invariant-loop-place : goal.invariant-loop-place
invariant-loop-place l = l.self ≡ copied l.initial.self (pairs_from l.to l.from l.place)
