-- What a command asks of the files that it reads and writes, for commands in general.
use Rattle.std.specs.Prelude.{◌≡◌, ℕ, ◌≤◌, ◌⊎◌, List, [], ◌∷◌, ◌++◌, length, map, Option, None, Some, IsSomeAnd, unwrap_or, Result, Ok, Err, Vec}
use Rattle.std.specs.declared.alloc.Global.{Global}
use Rattle.outer_files.specs.Outside.{Contents, IsLonger}
use Rattle.gimple_ir.specs.declared.types.Program.{Program}
use Rattle.whopr_words.specs.declared.job_file.Job.{Job}
use Rattle.whopr_words.specs.Jobs.{jobs_in}
use Rattle.whopr_words.specs.Commands.{Spoken, Cc, Lgen, Show, Interp, Run, Resolve}
use Rattle.job_links.specs.Reads.{reads_of as job_files}
use Rattle.whopr_top.specs.Judgements.{Judgement, only_job, job_program}

-- ---- what is read

-- the bytes held under names; of one that is not held, none
abbrev pub held_under : Contents → List (List ℕ) → List (List ℕ)
held_under held names = map (λ name. unwrap_or (held name) []) names

-- a program's input, where there is a program
abbrev pub input_of : List ℕ → Result Program Judgement → List (List ℕ)
input_of input (Ok program) = input ∷ []
input_of input (Err refused) = []

-- the files of a job, and then the input of their program
abbrev pub job_reads : Contents → List ℕ → Job → List (List ℕ)
job_reads held input job = job_files job ++ input_of input (job_program job (held_under held (job_files job)))

abbrev pub only_reads : Contents → List ℕ → Result Job Judgement → List (List ℕ)
only_reads held input (Ok job) = job_reads held input job
only_reads held input (Err refused) = []

-- those of the only job of a job file
abbrev pub text_reads : Contents → List ℕ → Option (List ℕ) → List (List ℕ)
text_reads held input None = []
text_reads held input (Some text) = only_reads held input (only_job (jobs_in text))

-- the files that a command reads, in order, by what is held
abbrev pub reads_of : Contents → Spoken → List (List ℕ)
reads_of held (Cc input output) = input ∷ []
reads_of held (Lgen input output) = input ∷ []
reads_of held (Show object) = object ∷ []
reads_of held (Interp jobs steps input output) = jobs ∷ text_reads held input (held jobs)
reads_of held (Run image steps input output) = image ∷ input ∷ []
reads_of held (Resolve output objects) = objects
reads_of held command = []

-- the names of the files that it may write
abbrev pub MayWrite : Spoken → List ℕ → Type 0
MayWrite (Cc input output) name = name ≡ output
MayWrite (Lgen input output) name = name ≡ output
MayWrite (Show object) name = ⊥
MayWrite (Interp jobs steps input output) name = name ≡ output
MayWrite (Run image steps input output) name = name ≡ output
MayWrite (Resolve output objects) name = name ≡ output
MayWrite command name = ⊥

-- the bytes of files that were read
abbrev pub contents_of : List (Vec ℕ Global) → List (List ℕ)
contents_of files = map (λ file. file.items) files

-- the file is held with no more bytes than the limit
abbrev pub IsWithin : ℕ → Option (List ℕ) → Type 0
IsWithin limit file = IsSomeAnd file (λ bytes. length bytes ≤ limit)

-- the files are held with these contents, each within the limit
abbrev pub AreHeld : ℕ → Contents → List (List ℕ) → List (List ℕ) → Type 0
AreHeld limit held [] [] = Unit {0}
AreHeld limit held [] (bytes ∷ more) = ⊥
AreHeld limit held (name ∷ names) [] = ⊥
AreHeld limit held (name ∷ names) (bytes ∷ more) = (held name ≡ Some bytes) × (length bytes ≤ limit) × AreHeld limit held names more

-- one of the files is held and too long, and those before it can be read
abbrev pub IsOverLimit : ℕ → Contents → List (List ℕ) → Type 0
IsOverLimit limit held [] = ⊥
IsOverLimit limit held (name ∷ names) = IsLonger limit (held name) ⊎ (IsWithin limit (held name) × IsOverLimit limit held names)

-- one of the files is not held, and those before it can be read
abbrev pub IsAbsent : ℕ → Contents → List (List ℕ) → Type 0
IsAbsent limit held [] = ⊥
IsAbsent limit held (name ∷ names) = (held name ≡ None) ⊎ (IsWithin limit (held name) × IsAbsent limit held names)

-- the name is one of the files, and those before it can be read
abbrev pub IsReached : ℕ → Contents → List (List ℕ) → List ℕ → Type 0
IsReached limit held [] name = ⊥
IsReached limit held (first ∷ names) name = (name ≡ first) ⊎ (IsWithin limit (held first) × IsReached limit held names name)
