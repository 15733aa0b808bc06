use Rattle.std.proofs.Common.{◌≡◌, ◌+◌, ◌*◌, drop, length}
use Rattle.std.specs.Prelude.{map, All}
use Rattle.elf_container.specs.Container.{IsSection}
use Rattle.elf_container.specs.Views.{owned}
use Rattle.elf_container.specs.Reading.{sections_at}
use Rattle.elf_container.proofs.SectionSteps.{with_front}
use Rattle.elf_container.proofs.reading.sections_at.Given as goal

abbrev pub invariant-loop-place : goal.invariant-loop-place
invariant-loop-place l = record { value : with_front (map owned l.sections.items) (sections_at l.bytes l.names (l.at + 64 * l.place) (drop l.place l.headers)) ≡ sections_at l.bytes l.names l.at l.headers; count : length l.sections.items ≡ l.place; sections : All IsSection (map owned l.sections.items) }
