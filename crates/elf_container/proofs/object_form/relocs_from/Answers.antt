use Rattle.std.proofs.Common.{sym, ◌∙◌}
use Rattle.elf_container.specs.Relocatable.{relocs_from}
use Rattle.elf_container.proofs.ObjectSteps.{relocs_go}
use Rattle.elf_container.proofs.object_form.relocs_from.Goals as goal

pub loop-reloc-preserved : goal.loop-reloc-preserved
loop-reloc-preserved c =
    rw (c.from.ensures, c.reach.ensures) (relocs_go c.loop-reloc.least c.args.words.now c.args.relocations.now c.loop-reloc.reloc-index _ (relocs_from 0 c.args.words.now c.args.relocations.now) c.loop-reloc-test.true (sym c.is_placed.ensures ∙ c.if-not-is_placed.false) c.loop-reloc.invariant)
