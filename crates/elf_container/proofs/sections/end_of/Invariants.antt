use Rattle.std.proofs.Common.{◌≡◌, take}
use Rattle.std.specs.Prelude.{map}
use Rattle.elf_container.specs.Views.{owned}
use Rattle.elf_container.specs.Offsets.{end_of}
use Rattle.elf_container.proofs.sections.end_of.Given as goal

abbrev pub invariant-loop-section : goal.invariant-loop-section
invariant-loop-section l = l.end ≡ end_of (map owned (take l.section-index l.sections))
