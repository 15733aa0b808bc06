use Rattle.std.proofs.Common.{◌≡◌, map, drop}
use Rattle.gimple_ir.specs.Names.{is_among}
use Rattle.elf_container.specs.Views.{owned}
use Rattle.lto_object.proofs.form.has_section.Given as goal

abbrev pub invariant-loop-section : goal.invariant-loop-section
invariant-loop-section l =
    is_among (map (λ s. s.name) (map owned l.sections)) l.name ≡ is_among (map (λ s. s.name) (map owned (drop l.section-index l.sections))) l.name
