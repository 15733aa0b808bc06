-- What is said of jobs, and what the files hold afterwards.
use Rattle.std.specs.Prelude.{◌≡◌, ◌≢◌, ℕ, ◌+◌, ◌<◌, ◌≤◌, ◌^◌, List, [], ◌∷◌, length, take, All, Option, Some, unwrap_or, Result, Ok, Err}
use Rattle.std.specs.List.{AllZip}
use Rattle.outer_files.specs.Outside.{Contents, IsLonger}
use Rattle.gimple_ir.specs.declared.merged.Merged.{Merged}
use Rattle.follow_laws.specs.Follows.{Follows}
use Rattle.link_laws.specs.Laws.{IsLoadable}
use Rattle.symbol_resolution.specs.Merging.{merged_of, program_of}
use Rattle.whopr_words.specs.declared.job_file.Job.{Job}
use Rattle.whopr_words.specs.declared.job_file.Jobs.{Jobs}
use Rattle.whopr_words.specs.declared.fault.JobError.TheVariants.{Fault}
use Rattle.whopr_words.specs.Jobs.{jobs_in}
use Rattle.job_links.specs.declared.line.JobLine.{JobLine}
use Rattle.job_links.specs.declared.line.JobLine.TheVariants.{Done, Object, TooLong, Limit, Read, Write, Memory, Unresolved}
use Rattle.job_links.specs.declared.line.Report.{Report}
use Rattle.job_links.specs.declared.line.JobsRefusal.{JobsRefusal}
use Rattle.job_links.specs.declared.line.JobsRefusal.TheVariants as refusal
use Rattle.job_links.specs.Reads.{reads_of, files_by, IsReached, size_of, sizes_of, batch_of}
use Rattle.job_links.specs.Alone.{Gives, Refuses, Prepared, prepared_by, ComesTo, Alone}

-- ---- one job

-- the image of what was prepared can be loaded, and does on every input what the program of the objects does
pub record IsFaithful (names : List (List ℕ)) (prepared : Prepared) (image : List ℕ) : Type 0 where
  pub merged : Merged
  pub merges : merged_of prepared.objects names prepared.resolution ≡ Ok merged
  pub loads : IsLoadable image
  pub follows : Follows image (program_of prepared.objects merged)

-- the image is that of the files, and faithful
pub record IsImage (names : List (List ℕ)) (found : Result Prepared JobLine) (image : List ℕ) : Type 0 where
  pub prepared : Prepared
  pub is : found ≡ Ok prepared
  pub outcome : ComesTo names found (Gives image)
  pub faithful : IsFaithful names prepared image

-- what a job alone gives is an image, which can be loaded and follows the program of the job's own files
abbrev pub GivesImage : ℕ → Contents → Job → List ℕ → Type 0
GivesImage limit held job image = IsImage job.objects (prepared_by (files_by limit held job)) image

-- the file holds exactly the image that the job alone gives
pub record IsDone (limit : ℕ) (held : Contents) (job : Job) (bytes : ℕ) (file : Option (List ℕ)) : Type 0 where
  pub image : List ℕ
  pub gives : GivesImage limit held job image
  pub count : bytes ≡ length image
  pub written : file ≡ Some image

-- the file holds a prefix of the image that the job alone gives; a file that is not held counts as holding nothing
pub record IsCutShort (limit : ℕ) (held : Contents) (job : Job) (file : Option (List ℕ)) : Type 0 where
  pub image : List ℕ
  pub gives : GivesImage limit held job image
  pub prefix : (n : ℕ) × (unwrap_or file [] ≡ take n image)

-- What is said of a job by what is held at first, and what the file of its image holds at last. It is what the job alone comes to, but
-- that the store may fail at each file that is reached, and at the image, and memory may run out.
abbrev pub IsAnswered : ℕ → Contents → Job → JobLine → Option (List ℕ) → Type 0
IsAnswered limit held job (Done bytes) file = IsDone limit held job bytes file
IsAnswered limit held job (Read place) file = IsReached limit held (reads_of job) place × (file ≡ held job.out)
IsAnswered limit held job Write file = IsCutShort limit held job file
IsAnswered limit held job Memory file = file ≡ held job.out
IsAnswered limit held job line file = Alone limit held job (Refuses line) × (file ≡ held job.out)

-- ---- all jobs

-- one for a line that names a file at which the store failed
abbrev pub failures_in : JobLine → ℕ
failures_in (Done bytes) = 0
failures_in (Object number fault) = 0
failures_in TooLong = 0
failures_in (Limit passed) = 0
failures_in (Read place) = 1
failures_in Write = 1
failures_in Memory = 0
failures_in (Unresolved fault) = 0

-- the store did not fail at a read of the job's files, and there was memory
abbrev pub WasRead : JobLine → Type 0
WasRead (Read place) = ⊥
WasRead Memory = ⊥
WasRead line = Unit {0}

-- how many bytes were read of the job's files, by its line; one for want of memory does not tell
abbrev pub size_told : ℕ → Contents → Job → JobLine → ℕ
size_told limit held job (Read place) = size_of limit held (take place (reads_of job))
size_told limit held job Memory = 0
size_told limit held job line = sizes_of limit held job

-- those of all jobs
abbrev pub batch_told : ℕ → Contents → List Job → List JobLine → ℕ
batch_told limit held [] lines = 0
batch_told limit held (job ∷ jobs) [] = 0
batch_told limit held (job ∷ jobs) (line ∷ lines) = size_told limit held job line + batch_told limit held jobs lines

-- no two jobs write the same file
abbrev pub AreDistinct : List Job → Type 0
AreDistinct [] = Unit {0}
AreDistinct (job ∷ jobs) = All (λ other. other.out ≢ job.out) jobs × AreDistinct jobs

-- each job has its line and its file, and every other file stands
pub record AreAnswered (limit : ℕ) (jobs : List Job) (lines : List JobLine) (held now : Contents) : Type 0 where
  pub each : AllZip (λ job line. IsAnswered limit held job line (now job.out)) jobs lines
  pub others : (name : List ℕ) → All (λ job. job.out ≢ name) jobs → now name ≡ held name

-- ---- the job file

-- the job file is held, within the limit, and spells these jobs
pub record AreJobs (limit : ℕ) (held : Contents) (name : List ℕ) (jobs : Jobs) : Type 0 where
  pub text : List ℕ
  pub is_held : held name ≡ Some text
  pub within : length text ≤ limit
  pub spelled : jobs_in text ≡ Ok jobs

-- the job file is held, within the limit, and this is its first bad line
pub record AreNoJobs (limit : ℕ) (held : Contents) (name : List ℕ) (line : ℕ) : Type 0 where
  pub text : List ℕ
  pub is_held : held name ≡ Some text
  pub within : length text ≤ limit
  pub spelled : jobs_in text ≡ Err (Fault line)

-- the jobs' files are too large together
pub record AreTooLarge (limit : ℕ) (held : Contents) (name : List ℕ) : Type 0 where
  pub jobs : Jobs
  pub are : AreJobs limit held name jobs
  pub large : 2 ^ 28 < batch_of limit held jobs.links

-- the cause of a refusal of the whole command, by what is held
abbrev pub IsCause : ℕ → Contents → List ℕ → JobsRefusal → Type 0
IsCause limit held name refusal.Read = Unit {0}
IsCause limit held name refusal.TooLong = IsLonger limit (held name)
IsCause limit held name (refusal.Jobs line) = AreNoJobs limit held name line
IsCause limit held name refusal.BatchBytes = AreTooLarge limit held name
IsCause limit held name refusal.Memory = Unit {0}

-- ---- where no count rises

-- the job file is held and spells jobs, whose files are not too large together
pub record IsValid (limit : ℕ) (held : Contents) (name : List ℕ) : Type 0 where
  pub jobs : Jobs
  pub are : AreJobs limit held name jobs
  pub small : batch_of limit held jobs.links ≤ 2 ^ 28

-- the line is that of what the job alone comes to, or that there was no memory
abbrev pub IsLineOf : ℕ → Contents → Job → JobLine → Type 0
IsLineOf limit held job (Done bytes) = (image : List ℕ) × GivesImage limit held job image × (bytes ≡ length image)
IsLineOf limit held job Memory = Unit {0}
IsLineOf limit held job line = Alone limit held job (Refuses line)

-- the jobs have the lines that they have alone; and where all is valid, the command is refused for want of memory alone
abbrev pub IsComplete : ℕ → Contents → List ℕ → Result Report JobsRefusal → Type 0
IsComplete limit held name (Ok report) = AllZip (IsLineOf limit held) report.jobs.links report.lines
IsComplete limit held name (Err refused) = IsValid limit held name → refused ≡ refusal.Memory
