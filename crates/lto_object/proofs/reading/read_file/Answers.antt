use Rattle.std.proofs.Common.{◌≡◌, length, sym, ap, ◌∙◌}
use Rattle.elf_container.specs.Offsets.{size_of}
use Rattle.elf_container.proofs.OffsetLaws.{size_at}
use Rattle.lto_object.proofs.ReadLaws.{same_then}
use Rattle.lto_object.proofs.reading.read_file.Goals as goal

pub returns-in-Ok-clause-size : goal.returns-in-Ok-clause-size
returns-in-Ok-clause-size c =
    same_then c.with_form.result c.in-Ok.view (λ ss. size_of ss ≡ length c.args.bytes.now) c.with_form.ensures.same
    (sym (ap length c.in-Ok.ensures.found ∙ size_at c.in-Ok.view))
