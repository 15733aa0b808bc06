use Rattle.std.specs.Prelude.{All}
use Rattle.elf_container.specs.Container.{IsPlain}
use Rattle.format_rows.proofs.containers.all_sections.Given as goal

abbrev pub invariant-loop-line : goal.invariant-loop-line
invariant-loop-line l = All IsPlain l.sections.items
