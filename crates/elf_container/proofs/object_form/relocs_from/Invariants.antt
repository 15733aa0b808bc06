use Rattle.std.proofs.Common.{◌≡◌, drop}
use Rattle.elf_container.specs.Relocatable.{relocs_from}
use Rattle.elf_container.proofs.object_form.relocs_from.Given as goal

abbrev pub invariant-loop-reloc : goal.invariant-loop-reloc
invariant-loop-reloc l = relocs_from l.least l.words (drop l.reloc-index l.relocations) ≡ relocs_from 0 l.words l.relocations
