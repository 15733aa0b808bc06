-- What `link` does: it is refused as a whole, or each job is linked alone and one report tells how each went.
use Rattle.std.specs.Prelude.{◌≡◌, ◌⊎◌, ℕ, ◌≤◌, ◌^◌, All, List, [], ◌∷◌, ◌++◌, length, sum_by, slice_get, unwrap_or, codes, decimal, Option, IfSome}
use Rattle.std.specs.List.{AllZip}
use Rattle.outer_files.specs.Outside.{Contents, Known, WhereTold, Rose, RoseBy}
use Rattle.resolution_text.specs.declared.fault.ResolutionError.{ResolutionError}
use Rattle.resolution_text.specs.declared.fault.ResolutionError.TheVariants as errors
use Rattle.whopr_words.specs.declared.job_file.Job.{Job}
use Rattle.whopr_words.specs.declared.job_file.Jobs.{Jobs}
use Rattle.job_links.specs.declared.line.JobLine.{JobLine}
use Rattle.job_links.specs.declared.line.JobLine.TheVariants.{Done, Object, TooLong, Limit, Read, Write, Memory, Unresolved}
use Rattle.job_links.specs.declared.line.JobsRefusal.{JobsRefusal}
use Rattle.job_links.specs.declared.line.JobsRefusal.TheVariants as refusal
use Rattle.job_links.specs.Reads.{batch_of}
use Rattle.job_links.specs.Answers.{AreAnswered, AreJobs, IsCause, IsValid, IsLineOf, WasRead, batch_told, failures_in}
use Rattle.job_links.specs.Statuses.{first_status}
use Rattle.whopr_top.specs.declared.refusal.ResolutionPlace.TheVariants.{AtLine, AtName}
use Rattle.whopr_top.specs.Answers.{file_bytes_line}
use Rattle.whopr_top.specs.Refusal.{Reports, read_line}
use Rattle.whopr_top.specs.Lines.{line, object_line, limit_line, resolution_line, batch_bytes_line, jobs_line}

-- ---- the report

-- the name of the file at a place among those that a job reads: its objects and then its resolution
abbrev pub name_at : Job → ℕ → List ℕ
name_at job place = unwrap_or (slice_get job.objects place) job.resolution

abbrev pub unresolved_line : ResolutionError → List ℕ
unresolved_line (errors.AtLine kind number) = resolution_line kind (AtLine number)
unresolved_line (errors.AtName kind name) = resolution_line kind (AtName name)
unresolved_line errors.NoMemory = line (codes "7 memory")

-- how a job went, as it is printed behind the name of its file
abbrev pub said_of : Job → JobLine → List ℕ
said_of job (Done bytes) = line (codes "ok " ++ decimal bytes)
said_of job (Object number fault) = object_line number fault
said_of job TooLong = file_bytes_line
said_of job (Limit passed) = limit_line passed
said_of job (Read place) = read_line (name_at job place)
said_of job Write = line (codes "6 write " ++ job.out)
said_of job Memory = line (codes "7 memory")
said_of job (Unresolved fault) = unresolved_line fault

abbrev pub job_line : Job → JobLine → List ℕ
job_line job said = (job.out ++ codes " ") ++ said_of job said

-- a line for each job
abbrev pub report_of : List Job → List JobLine → List ℕ
report_of (job ∷ jobs) (said ∷ more) = job_line job said ++ report_of jobs more
report_of jobs more = []

-- ---- the command that is refused as a whole

abbrev pub jobs_status : JobsRefusal → ℕ
jobs_status refusal.Read = 5
jobs_status refusal.TooLong = 4
jobs_status (refusal.Jobs number) = 10
jobs_status refusal.BatchBytes = 4
jobs_status refusal.Memory = 7

abbrev pub jobs_refusal_line : List ℕ → JobsRefusal → List ℕ
jobs_refusal_line name refusal.Read = read_line name
jobs_refusal_line name refusal.TooLong = file_bytes_line
jobs_refusal_line name (refusal.Jobs number) = jobs_line number
jobs_refusal_line name refusal.BatchBytes = batch_bytes_line
jobs_refusal_line name refusal.Memory = line (codes "7 memory")

-- The job file has a fault, or its jobs read too much: the line of that is printed, and every file stands. Where no count of the store
-- rose, a valid command is refused for want of memory alone.
pub record RefusesAll (limit : ℕ) (name : List ℕ) (old new : Option Contents) (before now result : ℕ) (known then : Known) : Type 0 where
  pub refused : JobsRefusal
  pub cause : IfSome old (λ held. IsCause limit held name refused)
  pub failed : refused ≡ refusal.Read → Rose before now
  pub complete : ¬ Rose before now → IfSome old (λ held. IsValid limit held name → refused ≡ refusal.Memory)
  pub stands : new ≡ old
  pub printed : Reports (jobs_refusal_line name refused) (jobs_status refused) result known then

-- The job file spells jobs. Each has its line, and its file holds its image, as said in `AreAnswered`: what it comes to alone, but that a
-- read or a write of it may fail and memory may run out; so many lines of failures as the store's count rose by at least. Where no
-- count of the store rose, each line is that of the job alone, or of want of memory. What was read, as the lines tell, is not too large
-- together; nor are all files, where each could be read. The status is that of the first job that is refused.
pub record ReportsJobs (limit : ℕ) (name : List ℕ) (old new : Option Contents) (before now result : ℕ) (known then : Known) : Type 0 where
  pub jobs : Jobs
  pub lines : List JobLine
  pub spelled : IfSome old (λ held. AreJobs limit held name jobs)
  pub count : length lines ≡ length jobs.links
  pub answered : WhereTold old new (AreAnswered limit jobs.links lines)
  pub counting : RoseBy (sum_by failures_in lines) before now
  pub read : IfSome old (λ held. batch_told limit held jobs.links lines ≤ 2 ^ 28)
  pub small : IfSome old (λ held. All WasRead lines → batch_of limit held jobs.links ≤ 2 ^ 28)
  pub complete : ¬ Rose before now → IfSome old (λ held. AllZip (IsLineOf limit held) jobs.links lines)
  pub printed : Reports (report_of jobs.links lines) (first_status lines) result known then

abbrev pub Links : ℕ → List ℕ → Option Contents → Option Contents → ℕ → ℕ → ℕ → Known → Known → Type 0
Links limit name old new before now result known then =
    RefusesAll limit name old new before now result known then ⊎ ReportsJobs limit name old new before now result known then
