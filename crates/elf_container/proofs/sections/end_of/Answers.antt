use Rattle.std.proofs.Common.{arith}
use Rattle.elf_container.specs.Views.{owned}
use Rattle.elf_container.proofs.OffsetLaws.{end_next_fits}
use Rattle.elf_container.proofs.sections.end_of.Goals as goal

pub aligned-requires : goal.aligned-requires
aligned-requires c =
    let fits = end_next_fits owned c.args.sections.now c.loop-section.section-index c.section-item.result c.loop-section-test.true c.section-item.is c.requires in
    omega (arith, c.loop-section.invariant, fits)

pub overflow_add-end : goal.overflow_add-end
overflow_add-end c =
    let fits = end_next_fits owned c.args.sections.now c.loop-section.section-index c.section-item.result c.loop-section-test.true c.section-item.is c.requires in
    omega (arith, c.loop-section.invariant, c.aligned.ensures, fits)
