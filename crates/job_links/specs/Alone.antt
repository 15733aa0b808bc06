-- What a job comes to by what is held, every fault of the outside set aside. It knows no other job.
use Rattle.std.specs.Prelude.{◌≡◌, ℕ, ◌+◌, List, [], ◌∷◌, map, Result, Ok, Err}
use Rattle.outer_files.specs.Outside.{Contents}
use Rattle.gimple_ir.specs.declared.types.Module.{Module}
use Rattle.lto_object.specs.declared.fault.ObjectFault.{ObjectFault}
use Rattle.lto_object.specs.BodyStream.{bodies_of}
use Rattle.lto_object.specs.Objects.{ObjectData, summaries_of, symbols_of}
use Rattle.lto_object.specs.ObjectReading.{read_of}
use Rattle.module_stream.specs.Bodies.{body_of}
use Rattle.resolution_text.specs.declared.resolution.Resolution.{Resolution}
use Rattle.resolution_text.specs.declared.fault.ResolutionError.{ResolutionError}
use Rattle.resolution_text.specs.Reading.{resolution_in}
use Rattle.symbol_resolution.specs.Merging.{merged_of}
use Rattle.plain_link.specs.Linking.{IsLinked, Passes}
use Rattle.whopr_words.specs.declared.job_file.Job.{Job}
use Rattle.job_links.specs.declared.line.JobLine.{JobLine}
use Rattle.job_links.specs.declared.line.JobLine.TheVariants.{Object, TooLong, Limit, Read, Memory, Unresolved}
use Rattle.job_links.specs.declared.reading.JobFiles.{JobFiles}
use Rattle.job_links.specs.declared.reading.ReadsFault.{ReadsFault}
use Rattle.job_links.specs.declared.reading.ReadsFault.TheVariants as reads
use Rattle.job_links.specs.Reads.{files_by}

pub data Outcome : Type 0 where
  Gives : (image : List ℕ) → Outcome
  Refuses : (line : JobLine) → Outcome

-- ---- the objects and the resolution

-- what is seen of the object of a module
abbrev pub data_of : Module → ObjectData
data_of m = record { source = m; summaries = summaries_of m; symbols = symbols_of m; bodies = map body_of (bodies_of m.functions) }

-- the object with this number before those after it
abbrev pub object_before : ℕ → Result Module ObjectFault → Result (List ObjectData) JobLine → Result (List ObjectData) JobLine
object_before number (Err fault) more = Err (Object number fault)
object_before number (Ok m) (Ok more) = Ok (data_of m ∷ more)
object_before number (Ok m) (Err line) = Err line

-- the objects that files are, of which the first has this number; or the first that is none
abbrev pub objects_from : ℕ → List (List ℕ) → Result (List ObjectData) JobLine
objects_from number [] = Ok []
objects_from number (bytes ∷ more) = object_before number (read_of bytes) (objects_from (number + 1) more)

pub record Prepared : Type 0 where
  pub objects : List ObjectData
  pub resolution : Resolution

abbrev pub prepared_with : Result (List ObjectData) JobLine → Result Resolution ResolutionError → Result Prepared JobLine
prepared_with (Err line) resolution = Err line
prepared_with (Ok objects) (Err fault) = Err (Unresolved fault)
prepared_with (Ok objects) (Ok resolution) = Ok (record { objects = objects; resolution = resolution })

-- the objects and the resolution that the files of a job are; or the first that is none
abbrev pub prepared_of : JobFiles → Result Prepared JobLine
prepared_of files = prepared_with (objects_from 0 files.objects) (resolution_in files.resolution)

-- the line of a file that can't be read
abbrev pub line_of : ReadsFault → JobLine
line_of (reads.Failed place) = Read place
line_of reads.TooLong = TooLong
line_of reads.NoMemory = Memory

abbrev pub prepared_by : Result JobFiles ReadsFault → Result Prepared JobLine
prepared_by (Ok files) = prepared_of files
prepared_by (Err fault) = Err (line_of fault)

-- ---- the outcome

-- the image of what was prepared; or the fault of merging, or the limit that is passed
abbrev pub LinksTo : List (List ℕ) → Prepared → Outcome → Type 0
LinksTo names p (Gives image) = IsLinked p.objects names p.resolution image
LinksTo names p (Refuses (Unresolved fault)) = merged_of p.objects names p.resolution ≡ Err fault
LinksTo names p (Refuses (Limit passed)) = Passes p.objects names p.resolution passed
LinksTo names p (Refuses line) = ⊥

abbrev pub ComesTo : List (List ℕ) → Result Prepared JobLine → Outcome → Type 0
ComesTo names (Ok p) outcome = LinksTo names p outcome
ComesTo names (Err line) (Gives image) = ⊥
ComesTo names (Err line) (Refuses said) = said ≡ line

-- what a job alone comes to
abbrev pub Alone : ℕ → Contents → Job → Outcome → Type 0
Alone limit held job outcome = ComesTo job.objects (prepared_by (files_by limit held job)) outcome
