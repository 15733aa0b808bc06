-- What the steps of the command give.
use Rattle.std.specs.Prelude.{◌≡◌, ℕ, ◌+◌, ◌≤◌, ◌^◌, ◌-◌, List, length, All, Bool, true, false, Result, Ok, Err, IsOk, Vec}
use Rattle.std.specs.declared.alloc.Global.{Global}
use Rattle.outer_files.specs.Outside.{Contents, RoseBy}
use Rattle.lto_object.specs.Objects.{ObjectData}
use Rattle.resolution_text.specs.declared.resolution.Resolution.{Resolution}
use Rattle.resolution_text.specs.declared.fault.ResolutionError.{ResolutionError}
use Rattle.whopr_words.specs.declared.job_file.Job.{Job}
use Rattle.whopr_words.specs.declared.job_file.Jobs.{Jobs}
use Rattle.whopr_words.specs.Jobs.{jobs_in}
use Rattle.job_links.specs.declared.line.JobLine.{JobLine}
use Rattle.job_links.specs.declared.line.JobLine.TheVariants.{Done, Object, TooLong, Limit, Read, Write, Memory, Unresolved}
use Rattle.job_links.specs.declared.reading.JobFiles.{JobFiles}
use Rattle.job_links.specs.declared.reading.ReadsFault.{ReadsFault}
use Rattle.job_links.specs.declared.reading.ReadsFault.TheVariants as reads
use Rattle.job_links.specs.Reads.{GivesFiles}
use Rattle.job_links.specs.Alone.{Refuses, prepared_of, ComesTo}
use Rattle.job_links.specs.Answers.{IsImage, GivesImage, IsAnswered, AreDistinct}

-- the objects, or the first fault, unless memory ran out
abbrev pub GivesObjects : Result (Vec ObjectData Global) JobLine → Result (List ObjectData) JobLine → Type 0
GivesObjects (Ok found) defined = defined ≡ Ok found.items
GivesObjects (Err Memory) defined = Unit {0}
GivesObjects (Err line) defined = defined ≡ Err line

-- the resolution, or its fault, unless memory ran out
abbrev pub GivesResolution : Result Resolution JobLine → Result Resolution ResolutionError → Type 0
GivesResolution (Ok found) defined = defined ≡ Ok found
GivesResolution (Err (Unresolved fault)) defined = defined ≡ Err fault
GivesResolution (Err Memory) defined = Unit {0}
GivesResolution (Err line) defined = ⊥

-- files of fewer than 2^32 - 1 bytes
pub record IsShort (files : JobFiles) : Type 0 where
  pub objects : All (λ bytes. length bytes ≤ 2 ^ 32 - 2) files.objects
  pub resolution : length files.resolution ≤ 2 ^ 32 - 2

-- a refusal that is not of a read or a write
abbrev pub is_own : JobLine → Bool
is_own (Done bytes) = false
is_own (Object number fault) = true
is_own TooLong = false
is_own (Limit passed) = true
is_own (Read place) = false
is_own Write = false
is_own Memory = true
is_own (Unresolved fault) = true

-- a refusal before the write
abbrev pub is_refusal : JobLine → Bool
is_refusal (Done bytes) = false
is_refusal (Object number fault) = true
is_refusal TooLong = true
is_refusal (Limit passed) = true
is_refusal (Read place) = true
is_refusal Write = false
is_refusal Memory = true
is_refusal (Unresolved fault) = true

-- the image of files whose objects have these names, or the first fault, unless memory ran out
abbrev pub GivesImageOf : List (List ℕ) → JobFiles → Result (Vec ℕ Global) JobLine → Type 0
GivesImageOf names files (Ok image) = IsImage names (prepared_of files) image.items
GivesImageOf names files (Err Memory) = Unit {0}
GivesImageOf names files (Err line) = ComesTo names (prepared_of files) (Refuses line)

-- the image of a job, or its line, while no file is written
abbrev pub IsOutcome : ℕ → Contents → Job → Result (Vec ℕ Global) JobLine → Type 0
IsOutcome limit held job (Ok image) = GivesImage limit held job image.items
IsOutcome limit held job (Err line) = IsAnswered limit held job line (held job.out)

-- the line of a job, and what its file holds, by what its files were read from; the file was as it was then
abbrev pub IsFinished : ℕ → Job → Result JobFiles ReadsFault → JobLine → Contents → Contents → Type 0
IsFinished limit job reading line old new =
    (held : Contents) → GivesFiles limit held job reading → old job.out ≡ held job.out → IsAnswered limit held job line (new job.out)

-- so many failures more than there were
abbrev pub IsCounted : ℕ → ℕ → ℕ → ℕ → Type 0
IsCounted before now faults_before faults_now = (more : ℕ) × (now ≡ before + more) × RoseBy more faults_before faults_now

-- What a line tells of the reading of the job's files: the first that could not be read, or that one is too long, or else that all were
-- read. One for want of memory tells nothing.
abbrev pub Tells : Result JobFiles ReadsFault → JobLine → Type 0
Tells reading (Read place) = reading ≡ Err (reads.Failed place)
Tells reading TooLong = reading ≡ Err reads.TooLong
Tells reading Memory = Unit {0}
Tells reading line = IsOk reading

-- no two jobs that a text spells write the same file
abbrev pub JobsAreDistinct : Type 0
JobsAreDistinct = (text : List ℕ) (jobs : Jobs) → jobs_in text ≡ Ok jobs → AreDistinct jobs.links
