use Rattle.std.proofs.Common.{◌≡◌, drop}
use Rattle.std.specs.Cmp.Lexicographic.{pointwise}
use Rattle.gimple_ir.specs.Lattices.{same_type}
use Rattle.symbol_resolution.proofs.types.same_types.Given as goal

-- what is left is alike where all is
abbrev pub invariant-loop-place : goal.invariant-loop-place
invariant-loop-place l = pointwise same_type (drop l.place l.a) (drop l.place l.b) ≡ pointwise same_type l.a l.b
