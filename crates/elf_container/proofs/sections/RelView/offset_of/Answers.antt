use Rattle.std.proofs.Common.{take, ap, sym, ◌∙◌, arith}
use Rattle.std.specs.Prelude.{map}
use Rattle.std.proofs.lemmas.List.{take-map}
use Rattle.elf_container.specs.Views.{owned}
use Rattle.elf_container.specs.Offsets.{aligned, end_of}
use Rattle.elf_container.proofs.OffsetLaws.{front_fits}
use Rattle.elf_container.proofs.sections.RelView.offset_of.Goals as goal

pub end_of-requires : goal.end_of-requires
end_of-requires c =
    let fits = front_fits owned c.self.inside.sections c.args.place c.self.invariant in
    let same = ap (λ ss. end_of (map owned (take c.args.place ss))) c.as_slice.ensures in
    omega (arith, fits, same)

pub aligned-requires : goal.aligned-requires
aligned-requires c =
    let fits = front_fits owned c.self.inside.sections c.args.place c.self.invariant in
    let same = c.end_of.ensures ∙ ap (λ ss. end_of (map owned (take c.args.place ss))) c.as_slice.ensures in
    rw same fits

pub returns : goal.returns
returns c =
    let same = c.end_of.ensures ∙ ap (λ ss. end_of (map owned (take c.args.place ss))) c.as_slice.ensures ∙ sym (ap end_of (take-map owned c.args.place c.self.inside.sections)) in
    rw (← c.self.view_is) (c.aligned.ensures ∙ ap aligned same)
