use Rattle.std.proofs.Common.{List, length, sym, ap, ◌∙◌, subst}
use Rattle.lto_object.specs.Objects.{ObjectData}
use Rattle.resolution_text.specs.Reading.{resolution_in}
use Rattle.plain_link.specs.Linking.{IsLinked}
use Rattle.symbol_resolution.specs.Merging.{AreFew}
use Rattle.job_links.specs.Alone.{objects_from}
use Rattle.job_links.proofs.JobImages.{image_of_files}
use Rattle.job_links.proofs.linking.link_files.Goals as goal

pub returns-in-Ok-clause-exact : goal.returns-in-Ok-clause-exact
returns-in-Ok-clause-exact c =
    let names = c.args.names.now in
    let objects = c.in_ok-objects.objects.items in
    let resolution = c.in_ok-resolution.resolution in
    image_of_files names c.args.files.now objects resolution c.in-Ok.image.items
    c.merged_programs.ensures.summarised c.linked_image_follows.ensures.loads c.linked_image_follows.ensures.follows
    (ap (objects_from 0) (sym c.as_slice.ensures) ∙ c.in_ok-objects.ensures.exact)
    (ap resolution_in (sym c.as_slice-2.ensures) ∙ c.in_ok-resolution.ensures.exact)
    c.in_ok-objects.ensures.objects
    (subst AreFew c.deref.ensures.value (c.are_few.ensures.0 c.if-not-are_few.false))
    (sym c.requires.count ∙ ap length (sym c.as_slice.ensures) ∙ sym c.in_ok-objects.ensures.count)
    (subst (λ (os : List ObjectData). IsLinked os names resolution c.in-Ok.image.items) c.deref-2.ensures.value c.in-Ok.ensures)
