use Rattle.std.proofs.Common.{◌≤◌, ◌^◌, List, Result, subst}
use Rattle.std.specs.List.{AllZip}
use Rattle.outer_files.specs.Outside.{RoseBy}
use Rattle.whopr_words.specs.declared.job_file.Job.{Job}
use Rattle.job_links.specs.declared.reading.JobFiles.{JobFiles}
use Rattle.job_links.specs.declared.reading.ReadsFault.{ReadsFault}
use Rattle.job_links.specs.Reads.{batch_given}
use Rattle.job_links.specs.Answers.{batch_told}
use Rattle.job_links.specs.Linking.{Tells}
use Rattle.job_links.proofs.Told.{told_1, told_there}
use Rattle.job_links.proofs.Batches.{batch_read}
use Rattle.job_links.proofs.top.link_all.Goals as goal

pub returns-in-Ok-finish_each-clause-read : goal.returns-in-Ok-finish_each-clause-read
returns-in-Ok-finish_each-clause-read g c =
    let limit = c.args.limit in
    let links = c.in-Ok-read_jobs.jobs.links in
    let named = c.as_slice-links.result.now in
    let readings = c.as_slice.result.now in
    let lines = c.in-Ok-finish_each.lines in
    let total = c.read_each.new.total in
    let le = c.if-total-gt-BATCH_BYTES.false in
    told_1 (λ held. RoseBy (batch_given limit held named c.in-Ok-read_each.readings) 0 total) (λ held. batch_told limit held links lines ≤ 2 ^ 28) _
    (λ held least. subst (λ (jobs : List Job). batch_told limit held jobs lines ≤ 2 ^ 28) c.as_slice-links.ensures
    (batch_read limit held named c.in-Ok-read_each.readings lines total
    (subst (λ (found : List (Result JobFiles ReadsFault)). AllZip Tells found lines) c.as_slice.ensures c.in-Ok-finish_each.ensures.told) least le))
    (told_there _ _ _ c.read_all.ensures.unchanged c.in-Ok-read_each.ensures.least)
