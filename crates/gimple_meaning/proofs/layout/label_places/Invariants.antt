use Rattle.std.proofs.Common.{◌≤◌, length}
use Rattle.gimple_meaning.specs.Tables.{ArePlaces}
use Rattle.gimple_meaning.proofs.layout.label_places.Given as goal

abbrev pub invariant-loop-place : goal.invariant-loop-place
invariant-loop-place l = (l.place ≤ length l.body) × ArePlaces l.body l.place l.places.items

abbrev pub decreases-loop-place : goal.decreases-loop-place
decreases-loop-place l = l.place
