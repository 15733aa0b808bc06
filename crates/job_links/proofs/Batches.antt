-- How much was read, as the lines of jobs tell.
use Rattle.std.proofs.Common.{◌≡◌, ℕ, ◌≤◌, ◌^◌, List, [], ◌∷◌, Result, Ok, Err, refl, true, arith, length, Option, Some, None}
use Rattle.std.specs.Prelude.{All, IsOk, IfOk, IfSome}
use Rattle.std.specs.List.{AllZip}
use Rattle.std.proofs.lemmas.List.Sums.{sum_by-cons}
use Rattle.outer_files.specs.Outside.{Contents, RoseBy}
use Rattle.whopr_words.specs.declared.job_file.Job.{Job}
use Rattle.job_links.specs.declared.line.JobLine.{JobLine}
use Rattle.job_links.specs.declared.line.JobLine.TheVariants.{Done, Object, TooLong, Limit, Read, Write, Memory, Unresolved}
use Rattle.job_links.specs.declared.line.JobsRefusal.{JobsRefusal}
use Rattle.job_links.specs.declared.line.Report.{Report}
use Rattle.job_links.specs.declared.reading.JobFiles.{JobFiles}
use Rattle.job_links.specs.declared.reading.ReadsFault.{ReadsFault}
use Rattle.job_links.specs.Reads.{reads_of, sizes_of, batch_of, size_given, batch_given}
use Rattle.job_links.specs.Answers.{WasRead, size_told, batch_told}
use Rattle.job_links.specs.Linking.{Tells, is_own}
use Rattle.job_links.proofs.Answered.{all_head, all_tail}

-- ---- a job

pub own_told : (reading : Result JobFiles ReadsFault) (line : JobLine) → IsOk reading → is_own line ≡ true → Tells reading line
own_told reading (Done bytes) read own = read
own_told reading (Object number fault) read own = read
own_told reading TooLong read own = grind (arith, own)
own_told reading (Limit passed) read own = read
own_told reading (Read place) read own = grind (arith, own)
own_told reading Write read own = read
own_told reading Memory read own = tt
own_told reading (Unresolved fault) read own = read

all_read : (limit : ℕ) (held : Contents) (job : Job) (reading : Result JobFiles ReadsFault) → IsOk reading → sizes_of limit held job ≤ size_given limit held (reads_of job) reading
all_read limit held job (Ok files) read = omega arith
all_read limit held job (Err fault) read = grind (arith, read)

told_given : (limit : ℕ) (held : Contents) (job : Job) (reading : Result JobFiles ReadsFault) (line : JobLine) → Tells reading line
    → size_told limit held job line ≤ size_given limit held (reads_of job) reading
told_given limit held job reading (Done bytes) told = all_read limit held job reading told
told_given limit held job reading (Object number fault) told = all_read limit held job reading told
told_given limit held job reading TooLong told = rw told (omega arith)
told_given limit held job reading (Limit passed) told = all_read limit held job reading told
told_given limit held job reading (Read place) told = rw told (omega arith)
told_given limit held job reading Write told = all_read limit held job reading told
told_given limit held job reading Memory told = omega arith
told_given limit held job reading (Unresolved fault) told = all_read limit held job reading told

all_told : (limit : ℕ) (held : Contents) (job : Job) (line : JobLine) → WasRead line → size_told limit held job line ≡ sizes_of limit held job
all_told limit held job (Done bytes) read = refl
all_told limit held job (Object number fault) read = refl
all_told limit held job TooLong read = refl
all_told limit held job (Limit passed) read = refl
all_told limit held job (Read place) read = absurd read
all_told limit held job Write read = refl
all_told limit held job Memory read = absurd read
all_told limit held job (Unresolved fault) read = refl

-- ---- all jobs

batch_least : (limit : ℕ) (held : Contents) (jobs : List Job) (readings : List (Result JobFiles ReadsFault)) (lines : List JobLine) → AllZip Tells readings lines
    → batch_told limit held jobs lines ≤ batch_given limit held jobs readings
batch_least limit held [] readings lines told = omega arith
batch_least limit held (job ∷ jobs) [] [] told = omega arith
batch_least limit held (job ∷ jobs) [] (line ∷ lines) told = absurd told
batch_least limit held (job ∷ jobs) (reading ∷ readings) [] told = absurd told
batch_least limit held (job ∷ jobs) (reading ∷ readings) (line ∷ lines) told =
    omega (arith, told_given limit held job reading line told.0, batch_least limit held jobs readings lines told.1)

pub batch_read : (limit : ℕ) (held : Contents) (jobs : List Job) (readings : List (Result JobFiles ReadsFault)) (lines : List JobLine) (total : ℕ) → AllZip Tells readings lines
    → RoseBy (batch_given limit held jobs readings) 0 total → total ≤ 2 ^ 28 → batch_told limit held jobs lines ≤ 2 ^ 28
batch_read limit held jobs readings lines total told least le = omega (arith, batch_least limit held jobs readings lines told, least, le)

whole_batch : (limit : ℕ) (held : Contents) (jobs : List Job) (lines : List JobLine) → length lines ≡ length jobs → All WasRead lines
    → batch_told limit held jobs lines ≡ batch_of limit held jobs
whole_batch limit held [] lines long read = grind arith
whole_batch limit held (job ∷ jobs) [] long read = absurd (omega (arith, long))
whole_batch limit held (job ∷ jobs) (line ∷ lines) long read =
    omega (
      arith,
      sum_by-cons (λ (j : Job). sizes_of limit held j) job jobs,
      all_told limit held job line (all_head WasRead line lines read),
      whole_batch limit held jobs lines (omega (arith, long)) (all_tail WasRead line lines read),
    )

-- the files of a report whose lines tell that each was read
pub all_small : (limit : ℕ) (told : Option Contents) (result : Result Report JobsRefusal) → IfOk result (λ report. length report.lines ≡ length report.jobs.links)
    → IfOk result (λ report. IfSome told (λ held. batch_told limit held report.jobs.links report.lines ≤ 2 ^ 28))
    → IfOk result (λ report. IfSome told (λ held. All WasRead report.lines → batch_of limit held report.jobs.links ≤ 2 ^ 28))
all_small limit told (Err refused) count least = tt
all_small limit None (Ok report) count least = tt
all_small limit (Some held) (Ok report) count least = λ read. omega (arith, least, whole_batch limit held report.jobs.links report.lines count read)
