-- What a command comes to by the bytes of the files that it reads, every fault of the outside set aside: a case a command.
use Rattle.std.specs.Prelude.{◌≡◌, ℕ, ◌+◌, map, List, [], ◌∷◌, ◌++◌, ◌^◌, length, take, drop, get_or, nat_le, sum_by, if◌then◌else◌, Option, None, Some, Result, Ok, Err, codes, decimal}
use Rattle.gimple_ir.specs.declared.types.Module.{Module}
use Rattle.gimple_ir.specs.declared.types.Program.{Program}
use Rattle.gimple_ir.specs.declared.merged.Merged.{Merged}
use Rattle.gimple_meaning.specs.Systems.{State}
use Rattle.gimple_meaning.specs.Run.{src, outcome_of, output_of as written_by}
use Rattle.gimple_syntax.specs.declared.text.TextFault.{TextFault}
use Rattle.gimple_syntax.specs.Reading.{read_of}
use Rattle.gimple_print.specs.Canonical.{text_of}
use Rattle.lto_object.specs.declared.fault.ObjectFault.{ObjectFault}
use Rattle.lto_object.specs.BodyStream.{bodies_of}
use Rattle.lto_object.specs.Objects.{object_of, ObjectData, summaries_of, symbols_of}
use Rattle.lto_object.specs.ObjectReading.{read_of as read_object_of}
use Rattle.module_stream.specs.Bodies.{body_of}
use Rattle.rv64_meaning.specs.Machine.{Outcome}
use Rattle.rv64_meaning.specs.Laws.{output_of}
use Rattle.rv64_meaning.specs.Loading.{load_fault_of, run_of}
use Rattle.program_link.specs.declared.fault.LimitFault.{LimitFault}
use Rattle.program_link.specs.Linking.{limits_of, first_passed, IsImageOf}
use Rattle.resolution_text.specs.declared.fault.ResolutionError.{ResolutionError}
use Rattle.resolution_text.specs.declared.fault.ResolutionError.TheVariants as errors
use Rattle.resolution_text.specs.declared.resolution.Resolution.{Resolution}
use Rattle.resolution_text.specs.Printing.{text_of as resolution_text}
use Rattle.resolution_text.specs.Reading.{resolution_in}
use Rattle.symbol_resolution.specs.Resolving.{resolve_of}
use Rattle.symbol_resolution.specs.Merging.{merged_of, program_of}
use Rattle.whopr_words.specs.declared.fault.JobError.{JobError}
use Rattle.whopr_words.specs.declared.fault.JobError.TheVariants as job_error
use Rattle.whopr_words.specs.declared.job_file.Job.{Job}
use Rattle.whopr_words.specs.declared.job_file.Jobs.{Jobs}
use Rattle.whopr_words.specs.Jobs.{jobs_in}
use Rattle.whopr_words.specs.Commands.{Spoken, Cc, Lgen, Show, Interp, Run, Resolve}
use Rattle.job_links.specs.Reads.{reads_of as job_files}
use Rattle.whopr_top.specs.declared.refusal.ResolutionPlace.TheVariants.{AtLine, AtName}
use Rattle.whopr_top.specs.Lines.{line, outcome_line, standing_line, text_line, object_line, limit_line, resolution_line, jobs_line, batch_bytes_line}

-- a file that is written: its name and its bytes
abbrev pub File : Type 0
File = List ℕ × List ℕ

pub data Judgement : Type 0 where
  -- it is refused, with this status and line
  Refuses : (status : ℕ) (text : List ℕ) → Judgement
  -- it writes these files one after the other, and then prints this text, or nothing where that is empty
  Gives : (written : List File) (text : List ℕ) → Judgement

-- ---- one command at a time

-- `lgen`: the object of the module that the text is read to
abbrev pub lgen_by : List ℕ → Result Module TextFault → Judgement
lgen_by output (Ok source) = Gives ((output, object_of source) ∷ []) []
lgen_by output (Err fault) = Refuses 9 (text_line fault.line fault.kind)

-- `show`: the canonical text of the module that the object is read to; it is the command's only object
abbrev pub show_by : Result Module ObjectFault → Judgement
show_by (Ok source) = Gives [] (text_of source)
show_by (Err fault) = Refuses 3 (object_line 0 fault)

-- `run`: the image is run, if it can be loaded
abbrev pub run_by : List ℕ → Option ℕ → Outcome → Judgement
run_by output (Some offset) outcome = Refuses 11 (line (codes "11 image " ++ decimal offset))
run_by output None outcome = Gives ((output, output_of outcome) ∷ []) (outcome_line outcome)

-- what is seen of the object of a module
abbrev pub data_of : Module → ObjectData
data_of m = record { source = m; summaries = summaries_of m; symbols = symbols_of m; bodies = map body_of (bodies_of m.functions) }

-- the object with this number before those after it
abbrev pub object_before : ℕ → Result Module ObjectFault → Result (List ObjectData) (ℕ × ObjectFault) → Result (List ObjectData) (ℕ × ObjectFault)
object_before number (Err fault) more = Err (number, fault)
object_before number (Ok m) (Ok more) = Ok (data_of m ∷ more)
object_before number (Ok m) (Err refused) = Err refused

-- the objects that files are, of which the first has this number; or the number and the fault of the first that is none
abbrev pub objects_from : ℕ → List (List ℕ) → Result (List ObjectData) (ℕ × ObjectFault)
objects_from number [] = Ok []
objects_from number (bytes ∷ more) = object_before number (read_object_of bytes) (objects_from (number + 1) more)

-- objects that have no resolution, or that do not merge under it
abbrev pub unresolved : ResolutionError → Judgement
unresolved (errors.AtLine kind number) = Refuses 8 (resolution_line kind (AtLine number))
unresolved (errors.AtName kind name) = Refuses 8 (resolution_line kind (AtName name))
unresolved errors.NoMemory = Refuses 7 (line (codes "7 memory"))

abbrev pub resolution_by : List ℕ → Result Resolution ResolutionError → Judgement
resolution_by output (Ok resolution) = Gives ((output, resolution_text resolution) ∷ []) []
resolution_by output (Err fault) = unresolved fault

-- the files have at most 256 MiB together, or the command is refused
abbrev pub within_batch : List (List ℕ) → Judgement → Judgement
within_batch contents judgement = if nat_le (sum_by length contents) (2 ^ 28) then judgement else Refuses 4 batch_bytes_line

-- `resolve`: the text of the resolution of the objects, under the names of their files
abbrev pub resolve_by : List ℕ → List (List ℕ) → Result (List ObjectData) (ℕ × ObjectFault) → Judgement
resolve_by output names (Ok objects) = resolution_by output (resolve_of objects names)
resolve_by output names (Err refused) = Refuses 3 (object_line refused.0 refused.1)

-- ---- the link of objects under their own resolution

-- the image of a merged program, unless it passes a limit; the first
abbrev pub JudgesImage : List ℕ → List ObjectData → Merged → Option LimitFault → Judgement → Type 0
JudgesImage output objects merged (Some passed) judgement = judgement ≡ Refuses 4 (limit_line passed)
JudgesImage output objects merged None judgement =
    (image : List ℕ) × IsImageOf (program_of objects merged) merged image × (judgement ≡ Gives ((output, image) ∷ []) [])

-- the image of the program that objects merge to, unless they don't
abbrev pub JudgesMerged : List ℕ → List ObjectData → Result Merged ResolutionError → Judgement → Type 0
JudgesMerged output objects (Ok merged) judgement = JudgesImage output objects merged (first_passed (limits_of merged)) judgement
JudgesMerged output objects (Err fault) judgement = judgement ≡ unresolved fault

-- the image of objects under their resolution, unless they have none
abbrev pub JudgesResolved : List ℕ → List ObjectData → List (List ℕ) → Result Resolution ResolutionError → Judgement → Type 0
JudgesResolved output objects names (Ok resolution) judgement = JudgesMerged output objects (merged_of objects names resolution) judgement
JudgesResolved output objects names (Err fault) judgement = judgement ≡ unresolved fault

-- the image of objects whose files have these names
abbrev pub JudgesLink : List ℕ → List ObjectData → List (List ℕ) → Judgement → Type 0
JudgesLink output objects names judgement = JudgesResolved output objects names (resolve_of objects names) judgement

-- `cc`: the text is read to a module, whose object is linked alone, under the text's name
abbrev pub JudgesText : (input output : List ℕ) → Result Module TextFault → Judgement → Type 0
JudgesText input output (Ok source) judgement = JudgesLink output (data_of source ∷ []) (input ∷ []) judgement
JudgesText input output (Err fault) judgement = judgement ≡ Refuses 9 (text_line fault.line fault.kind)

-- ---- the program of the only job of a job file

-- the only one of jobs
abbrev pub only_of : List Job → Result Job Judgement
only_of [] = Err (Refuses 10 (jobs_line 1))
only_of (job ∷ []) = Ok job
only_of (job ∷ other ∷ more) = Err (Refuses 10 (jobs_line 1))

-- the only job of a job file, unless its text has another form, or another number of jobs
abbrev pub only_job : Result Jobs JobError → Result Job Judgement
only_job (Ok jobs) = only_of jobs.links
only_job (Err (job_error.Fault number)) = Err (Refuses 10 (jobs_line number))
only_job (Err job_error.NoMemory) = Err (Refuses 7 (line (codes "7 memory")))

-- a program that passes no limit
abbrev pub program_within : Option LimitFault → Program → Result Program Judgement
program_within None program = Ok program
program_within (Some passed) program = Err (Refuses 4 (limit_line passed))

-- the whole program that objects merge to, unless they don't
abbrev pub program_merged : List ObjectData → Result Merged ResolutionError → Result Program Judgement
program_merged objects (Ok merged) = program_within (first_passed (limits_of merged)) (program_of objects merged)
program_merged objects (Err fault) = Err (unresolved fault)

-- the program of objects under a resolution, if its text spells one
abbrev pub program_under : List (List ℕ) → List ObjectData → Result Resolution ResolutionError → Result Program Judgement
program_under names objects (Ok resolution) = program_merged objects (merged_of objects names resolution)
program_under names objects (Err fault) = Err (unresolved fault)

-- the program of files that are objects, whose names these are, under the resolution that a text spells
abbrev pub program_by : List (List ℕ) → Result (List ObjectData) (ℕ × ObjectFault) → List ℕ → Result Program Judgement
program_by names (Ok objects) resolution = program_under names objects (resolution_in resolution)
program_by names (Err refused) resolution = Err (Refuses 3 (object_line refused.0 refused.1))

-- the program of a job by the bytes of its files, which have at most 256 MiB together
abbrev pub job_program : Job → List (List ℕ) → Result Program Judgement
job_program job files =
    if nat_le (sum_by length files) (2 ^ 28)
    then program_by job.objects (objects_from 0 (take (length job.objects) files)) (get_or files (length job.objects) [])
    else Err (Refuses 4 batch_bytes_line)

-- what a run has written is written, and how it stands is printed
abbrev pub standing_by : List ℕ → State → Judgement
standing_by output state = Gives ((output, written_by state) ∷ []) (standing_line (outcome_of state))

-- a program is run on the bytes that are read then; where there is none, nothing more is read
abbrev pub JudgesRun : List ℕ → ℕ → Result Program Judgement → List (List ℕ) → Judgement → Type 0
JudgesRun output steps (Ok program) [] judgement = ⊥
JudgesRun output steps (Ok program) (given ∷ []) judgement = judgement ≡ standing_by output (src program given steps)
JudgesRun output steps (Ok program) (given ∷ other ∷ more) judgement = ⊥
JudgesRun output steps (Err refused) [] judgement = judgement ≡ refused
JudgesRun output steps (Err refused) (bytes ∷ more) judgement = ⊥

-- the program of a job, whose files are read first
abbrev pub JudgesJob : List ℕ → ℕ → Job → List (List ℕ) → Judgement → Type 0
JudgesJob output steps job contents judgement =
    JudgesRun output steps (job_program job (take (length (job_files job)) contents)) (drop (length (job_files job)) contents) judgement

-- `interp`: the program of the only job of the job file, which is read before its files
abbrev pub JudgesOnly : List ℕ → ℕ → Result Job Judgement → List (List ℕ) → Judgement → Type 0
JudgesOnly output steps (Ok job) contents judgement = JudgesJob output steps job contents judgement
JudgesOnly output steps (Err refused) [] judgement = judgement ≡ refused
JudgesOnly output steps (Err refused) (bytes ∷ more) judgement = ⊥

-- ---- all commands

abbrev pub Judges : Spoken → List (List ℕ) → Judgement → Type 0
Judges (Cc input output) (text ∷ []) judgement = JudgesText input output (read_of text) judgement
Judges (Lgen input output) (text ∷ []) judgement = judgement ≡ lgen_by output (read_of text)
Judges (Show object) (bytes ∷ []) judgement = judgement ≡ show_by (read_object_of bytes)
Judges (Interp jobs steps input output) (text ∷ contents) judgement = JudgesOnly output steps (only_job (jobs_in text)) contents judgement
Judges (Run image steps input output) (bytes ∷ given ∷ []) judgement = judgement ≡ run_by output (load_fault_of bytes) (run_of bytes given steps)
Judges (Resolve output objects) contents judgement = judgement ≡ within_batch contents (resolve_by output objects (objects_from 0 contents))
Judges command contents judgement = ⊥
