use Rattle.std.proofs.Common.{◌≡◌, map, drop}
use Rattle.std.specs.List.{list_all}
use Rattle.gimple_ir.specs.Names.{is_among}
use Rattle.elf_container.specs.Views.{owned}
use Rattle.lto_object.proofs.form.has_sections.Given as goal

abbrev pub invariant-loop-name : goal.invariant-loop-name
invariant-loop-name l =
    list_all (is_among (map (λ s. s.name) (map owned l.sections))) (map (λ n. n.now) l.names)
    ≡ list_all (is_among (map (λ s. s.name) (map owned l.sections))) (map (λ n. n.now) (drop l.name-index l.names))
