use Rattle.std.proofs.Common.{◌≡◌, ◌+◌, take, length}
use Rattle.std.specs.Prelude.{map, sum_by}
use Rattle.elf_container.specs.Views.{owned}
use Rattle.elf_container.proofs.sections.names_size.Given as goal

abbrev pub invariant-loop-section : goal.invariant-loop-section
invariant-loop-section l = l.size ≡ 11 + sum_by (λ s. length s.name + 1) (map owned (take l.section-index l.sections))
