use Rattle.std.proofs.Common.{sym, ◌∙◌}
use Rattle.elf_container.specs.ObjectReading.{named_by}
use Rattle.elf_container.proofs.ObjectSteps.{symbols_go}
use Rattle.elf_container.proofs.object_reading.named.Goals as goal

pub loop-entry-preserved : goal.loop-entry-preserved
loop-entry-preserved c =
    rw (c.in_ok-push-in-Some.ensures.ok, c.start_of.ensures) (symbols_go c.loop-entry.symbols c.args.strings.now c.args.entries.now c.loop-entry.entry-index _ c.in-Some.name (named_by c.args.strings.now c.args.entries.now) c.loop-entry-test.true (sym c.in_ok-name_at.ensures.value ∙ c.in-Some.is) c.loop-entry.invariant)
