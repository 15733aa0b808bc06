use Rattle.std.proofs.Common.{arith}
use Rattle.elf_container.specs.Views.{owned}
use Rattle.elf_container.proofs.OffsetLaws.{sum_next_fits}
use Rattle.elf_container.proofs.sections.names_size.Goals as goal

pub overflow_add-size-in-loop-section : goal.overflow_add-size-in-loop-section
overflow_add-size-in-loop-section c =
    let fits = sum_next_fits owned c.args.sections.now c.loop-section.section-index c.section-item.result c.loop-section-test.true c.section-item.is in
    omega (arith, c.loop-section.invariant, c.len.ensures.value, c.requires, fits)
