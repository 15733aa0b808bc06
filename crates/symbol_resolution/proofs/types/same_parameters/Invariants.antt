use Rattle.std.proofs.Common.{◌≡◌, drop}
use Rattle.std.specs.Cmp.Lexicographic.{pointwise}
use Rattle.symbol_resolution.specs.NameFaults.{same_components}
use Rattle.symbol_resolution.proofs.types.same_parameters.Given as goal

-- what is left is alike where all is
abbrev pub invariant-loop-place : goal.invariant-loop-place
invariant-loop-place l = pointwise same_components (drop l.place l.a) (drop l.place l.b) ≡ pointwise same_components l.a l.b
