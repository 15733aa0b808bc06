use Rattle.std.proofs.Common.{refl}
use Rattle.elf_container.specs.ObjectReading.{is_object}
use Rattle.elf_container.proofs.object_form.is_object.Goals as goal

pub returns : goal.returns
unfolding is_object
returns c = rw (c.all_met.ensures, c.fill_from-filled.ensures, c.relocs_from-placed.ensures, c.named_in_order-named.ensures, c.members.ensures, c.in_ok-double.ensures, c.as_slice-symbols.ensures, c.as_slice-words.ensures, c.as_slice-relocations.ensures) refl
