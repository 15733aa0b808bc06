use Rattle.std.proofs.Common.{◌≡◌, drop}
use Rattle.elf_container.specs.Relocatable.{named_in_order}
use Rattle.elf_container.proofs.object_form.named_in_order.Given as goal

abbrev pub invariant-loop-reloc : goal.invariant-loop-reloc
invariant-loop-reloc l = named_in_order l.next l.count (drop l.reloc-index l.relocations) ≡ named_in_order l.first l.count l.relocations
