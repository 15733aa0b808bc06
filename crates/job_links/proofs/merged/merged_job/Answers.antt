use Rattle.std.proofs.Common.{◌≡◌, List, length, sym, ap, ◌∙◌, subst}
use Rattle.std.specs.Prelude.{Ok}
use Rattle.lto_object.specs.Objects.{ObjectData}
use Rattle.resolution_text.specs.Reading.{resolution_in}
use Rattle.symbol_resolution.specs.Merging.{AreFew, merged_of, program_of}
use Rattle.job_links.specs.Alone.{objects_from}
use Rattle.job_links.proofs.JobImages.{program_of_files}
use Rattle.job_links.proofs.merged.merged_job.Goals as goal

pub returns-in-Ok-program_of-clause-exact : goal.returns-in-Ok-program_of-clause-exact
returns-in-Ok-program_of-clause-exact c =
    let names = c.args.names.now in
    let objects = c.in_ok-objects.objects.items in
    let resolution = c.in_ok-resolution.resolution in
    let merged = c.in-Ok.merged in
    program_of_files names c.args.files.now objects resolution c.in-Ok-program_of.program merged c.merged_programs.ensures.summarised
    (ap (objects_from 0) (sym c.as_slice.ensures) ∙ c.in_ok-objects.ensures.exact)
    (ap resolution_in (sym c.as_slice-2.ensures) ∙ c.in_ok-resolution.ensures.exact)
    c.in_ok-objects.ensures.objects
    (subst AreFew c.deref.ensures.value (c.are_few.ensures.0 c.if-not-are_few.false))
    (sym c.requires.count ∙ ap length (sym c.as_slice.ensures) ∙ sym c.in_ok-objects.ensures.count)
    (subst (λ (os : List ObjectData). merged_of os names resolution ≡ Ok merged) c.deref-2.ensures.value c.in-Ok.ensures.exact)
    (c.in-Ok-program_of.ensures.exact ∙ ap (λ (os : List ObjectData). program_of os merged) c.deref-3.ensures.value)
