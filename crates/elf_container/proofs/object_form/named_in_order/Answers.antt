use Rattle.std.proofs.Common.{sym, ◌∙◌}
use Rattle.elf_container.specs.Relocatable.{named_in_order}
use Rattle.elf_container.proofs.ObjectSteps.{named_go}
use Rattle.elf_container.proofs.object_form.named_in_order.Goals as goal

pub loop-reloc-preserved : goal.loop-reloc-preserved
loop-reloc-preserved c = named_go c.loop-reloc.next c.args.count c.args.relocations.now c.loop-reloc.reloc-index _ c.in-Some.later (named_in_order c.args.first c.args.count c.args.relocations.now) c.loop-reloc-test.true (sym c.after.ensures ∙ c.in-Some.is) c.loop-reloc.invariant
