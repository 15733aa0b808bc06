use Rattle.std.proofs.Common.{◌≡◌, map, take}
use Rattle.program_link.specs.Objects.{placed}
use Rattle.program_link.proofs.objects.relocations_of.Given as goal

abbrev pub invariant-loop-reloc : goal.invariant-loop-reloc
invariant-loop-reloc l = l.found.items ≡ map (placed l.own) (take l.reloc-index l.relocations)
