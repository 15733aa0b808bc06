use Rattle.std.proofs.Common.{◌≡◌, map, take}
use Rattle.program_link.specs.Versions.{array_use}
use Rattle.program_link.proofs.members.arrays.Given as goal

abbrev pub invariant-loop-array : goal.invariant-loop-array
invariant-loop-array l = l.uses.items ≡ map (array_use l.merged) (take l.array-index l.named)
