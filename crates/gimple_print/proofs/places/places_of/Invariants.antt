use Rattle.std.proofs.Common.{◌≡◌, take}
use Rattle.gimple_print.specs.Places.{places_of}
use Rattle.gimple_print.proofs.places.places_of.Given as goal

abbrev pub invariant-loop-variable : goal.invariant-loop-variable
invariant-loop-variable l = l.places ≡ places_of l.structs (take l.variable-index l.variables)
