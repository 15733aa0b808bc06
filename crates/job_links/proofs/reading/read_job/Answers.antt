use Rattle.std.proofs.Common.{◌≡◌, ◌≤◌, ◌+◌, arith, subst, Ok, Err, List, ℕ, [], ◌∷◌}
use Rattle.std.specs.Prelude.{IfSome}
use Rattle.outer_files.specs.Outside.{RoseBy}
use Rattle.job_links.specs.declared.reading.JobFiles.{JobFiles}
use Rattle.job_links.specs.Reads.{GivesFile, GivesContents, GivesFiles, contents_from, file_by, reads_of, size_by, size_of, sizes_of, size_given}
use Rattle.job_links.proofs.Told.{told_1, told_2, told_3, told_there}
use Rattle.job_links.proofs.ReadingFiles.{all_within, size_front, size_append, resolution_fault}
use Rattle.job_links.proofs.LeastRead.{given_front, last_fault, last_read}
use Rattle.job_links.proofs.reading.read_job.Goals as goal

pub returns-in-Err-clause-size : goal.returns-in-Err-clause-size
returns-in-Err-clause-size g c =
    let job = c.args.job.now in
    let old = c.args.total.now in
    let now = c.read_objects.new.total in
    told_1 (λ held. now ≤ old + size_of c.args.limit held job.objects) (λ held. now ≤ old + sizes_of c.args.limit held job) _
    (λ held size. omega (arith, size, size_front c.args.limit held job.objects (job.resolution ∷ []))) (rw c.as_slice.ensures at c.in-Err.ensures.size)

pub returns-in-Err-read_file-clause-size : goal.returns-in-Err-read_file-clause-size
returns-in-Err-read_file-clause-size g c =
    let job = c.args.job.now in
    let limit = c.args.limit in
    let old = c.args.total.now in
    let between = c.read_objects.new.total in
    let now = c.read_file.new.total in
    told_3 (λ held. contents_from 0 limit held job.objects ≡ Ok c.in-Ok.objects) (λ held. between ≤ old + size_of limit held job.objects)
    (λ held. now ≤ between + size_by limit (held job.resolution) 0) (λ held. now ≤ old + sizes_of limit held job) _
    (λ held read first last. omega (arith, first, last, size_append limit held job.objects (job.resolution ∷ []) (all_within 0 limit held job.objects _ read)))
    (rw c.as_slice.ensures at c.in-Ok.ensures.gives) (rw c.as_slice.ensures at c.in-Ok.ensures.size) (told_there _ _ _ c.in-Ok.ensures.unchanged c.in-Err-read_file.ensures.size)

pub returns-in-Ok-read_file-clause-size : goal.returns-in-Ok-read_file-clause-size
returns-in-Ok-read_file-clause-size g c =
    let job = c.args.job.now in
    let limit = c.args.limit in
    let old = c.args.total.now in
    let between = c.read_objects.new.total in
    let now = c.read_file.new.total in
    told_3 (λ held. contents_from 0 limit held job.objects ≡ Ok c.in-Ok.objects) (λ held. between ≤ old + size_of limit held job.objects)
    (λ held. now ≤ between + size_by limit (held job.resolution) 0) (λ held. now ≤ old + sizes_of limit held job) _
    (λ held read first last. omega (arith, first, last, size_append limit held job.objects (job.resolution ∷ []) (all_within 0 limit held job.objects _ read)))
    (rw c.as_slice.ensures at c.in-Ok.ensures.gives) (rw c.as_slice.ensures at c.in-Ok.ensures.size) (told_there _ _ _ c.in-Ok.ensures.unchanged c.in-Ok-read_file.ensures.size)

pub returns-in-Err-read_file-clause-gives : goal.returns-in-Err-read_file-clause-gives
returns-in-Err-read_file-clause-gives g c =
    let job = c.args.job.now in
    let limit = c.args.limit in
    let fault = c.in-Err-read_file.fault in
    told_2 (λ held. contents_from 0 limit held job.objects ≡ Ok c.in-Ok.objects) (λ held. GivesFile c.len-place.result limit (held job.resolution) (Err fault))
    (λ held. GivesFiles limit held job (Err fault)) _ (λ held read last. resolution_fault limit held job c.in-Ok.objects c.len-place.result fault read c.len-place.ensures last)
    (rw c.as_slice.ensures at c.in-Ok.ensures.gives) (told_there _ _ _ c.in-Ok.ensures.unchanged c.in-Err-read_file.ensures.gives)

pub returns-in-Err-clause-least : goal.returns-in-Err-clause-least
returns-in-Err-clause-least g c =
    let job = c.args.job.now in
    let limit = c.args.limit in
    let fault = c.in-Err.fault in
    let old = c.args.total.now in
    let now = c.read_objects.new.total in
    let told = g.F.FileStore.held c.args.files.now in
    told_2 (λ held. GivesContents limit held job.objects (Err fault)) (λ held. RoseBy (size_given {A = List (List ℕ)} limit held job.objects (Err fault)) old now)
    (λ held. RoseBy (size_given {A = JobFiles} limit held (reads_of job) (Err fault)) old now) _
    (λ held gives least. rw (← given_front limit held job.objects (job.resolution ∷ []) fault gives) least)
    (subst (λ (names : List (List ℕ)). IfSome told (λ held. GivesContents limit held names (Err fault))) c.as_slice.ensures c.in-Err.ensures.gives)
    (subst (λ (names : List (List ℕ)). IfSome told (λ held. RoseBy (size_given {A = List (List ℕ)} limit held names (Err fault)) old now)) c.as_slice.ensures c.in-Err.ensures.least)

pub returns-in-Err-read_file-clause-least : goal.returns-in-Err-read_file-clause-least
returns-in-Err-read_file-clause-least g c =
    let job = c.args.job.now in
    let limit = c.args.limit in
    let fault = c.in-Err-read_file.fault in
    told_3 (λ held. contents_from 0 limit held job.objects ≡ Ok c.in-Ok.objects) (λ held. RoseBy (size_of limit held job.objects) _ _)
    (λ held. GivesFile c.len-place.result limit (held job.resolution) (Err fault)) (λ held. RoseBy (size_given {A = JobFiles} limit held (reads_of job) (Err fault)) _ _) _
    (λ held read least last. last_fault limit held job.objects c.in-Ok.objects job.resolution c.len-place.result fault _ _ _ read c.len-place.ensures last least c.in-Err-read_file.ensures.least)
    (rw c.as_slice.ensures at c.in-Ok.ensures.gives) (rw c.as_slice.ensures at c.in-Ok.ensures.least) (told_there _ _ _ c.in-Ok.ensures.unchanged c.in-Err-read_file.ensures.gives)

pub returns-in-Ok-read_file-clause-least : goal.returns-in-Ok-read_file-clause-least
returns-in-Ok-read_file-clause-least g c =
    let job = c.args.job.now in
    let limit = c.args.limit in
    told_3 (λ held. contents_from 0 limit held job.objects ≡ Ok c.in-Ok.objects) (λ held. RoseBy (size_of limit held job.objects) _ _)
    (λ held. file_by c.len-place.result limit (held job.resolution) ≡ Ok c.in-Ok-read_file.resolution) (λ held. RoseBy (size_of limit held (reads_of job)) _ _) _
    (λ held read least last. last_read limit held job.objects c.in-Ok.objects job.resolution c.in-Ok-read_file.resolution c.len-place.result _ _ _ read last least c.in-Ok-read_file.ensures.least)
    (rw c.as_slice.ensures at c.in-Ok.ensures.gives) (rw c.as_slice.ensures at c.in-Ok.ensures.least) (told_there _ _ _ c.in-Ok.ensures.unchanged c.in-Ok-read_file.ensures.gives)
