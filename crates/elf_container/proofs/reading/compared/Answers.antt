use Rattle.std.proofs.Common.{List, length, sym, ap, ◌∙◌, arith}
use Rattle.std.specs.Prelude.{map}
use Rattle.elf_container.specs.declared.sections.OwnSection.{OwnSection}
use Rattle.elf_container.specs.Views.{owned}
use Rattle.elf_container.specs.Layout.{layout_of}
use Rattle.elf_container.specs.Reading.{difference}
use Rattle.elf_container.proofs.Found.{same_layout}
use Rattle.elf_container.proofs.OffsetLaws.{size_at}
use Rattle.elf_container.proofs.reading.compared.Goals as goal

pub new-requires : goal.new-requires
new-requires c =
    let ss : List OwnSection = map owned c.from_vec.result in
    let laid = c.as_slice-2.ensures.value ∙ c.in_ok-layout.ensures ∙ ap (λ xs. layout_of (map owned xs)) (c.as_slice.ensures.value ∙ sym c.from_vec.ensures) in
    let same = same_layout c.args.bytes.now ss (ap (difference 0 c.args.bytes.now) (sym laid) ∙ sym c.difference.ensures ∙ c.in-None.is) in
    omega (arith, ap length same, size_at ss)
