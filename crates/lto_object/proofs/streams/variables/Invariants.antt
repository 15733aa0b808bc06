use Rattle.std.proofs.Common.{◌≡◌, take}
use Rattle.lto_object.proofs.streams.variables.Given as goal

abbrev pub invariant-loop-variable : goal.invariant-loop-variable
invariant-loop-variable l = l.copied ≡ take l.variable-index l.variables
