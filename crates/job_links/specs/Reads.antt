-- What the files of jobs hold, and how much is read of them.
use Rattle.std.specs.Prelude.{◌≡◌, ℕ, ◌+◌, ◌<◌, ◌≤◌, List, [], ◌∷◌, ◌++◌, length, take, All, sum_by, Option, None, Some, IsSomeAnd, Result, Ok, Err, if◌then◌else◌, nat_lt}
use Rattle.outer_files.specs.Outside.{Contents}
use Rattle.whopr_words.specs.declared.job_file.Job.{Job}
use Rattle.job_links.specs.declared.reading.JobFiles.{JobFiles}
use Rattle.job_links.specs.declared.reading.ReadsFault.{ReadsFault}
use Rattle.job_links.specs.declared.reading.ReadsFault.TheVariants.{Failed, TooLong, NoMemory}

-- the files that a job reads, in order
abbrev pub reads_of : Job → List (List ℕ)
reads_of job = job.objects ++ job.resolution ∷ []

-- the file is held with no more bytes than the limit
abbrev pub IsWithin : ℕ → Option (List ℕ) → Type 0
IsWithin limit file = IsSomeAnd file (λ bytes. length bytes ≤ limit)

-- the place is that of one of the files, and those before it can be read
pub record IsReached (limit : ℕ) (held : Contents) (names : List (List ℕ)) (place : ℕ) : Type 0 where
  pub one : place < length names
  pub before : All (λ name. IsWithin limit (held name)) (take place names)

-- ---- what is held

-- the bytes of the file at a place, or why it can't be read
abbrev pub file_by : ℕ → ℕ → Option (List ℕ) → Result (List ℕ) ReadsFault
file_by place limit None = Err (Failed place)
file_by place limit (Some bytes) = if nat_lt limit (length bytes) then Err TooLong else Ok bytes

abbrev pub contents_with : Result (List ℕ) ReadsFault → Result (List (List ℕ)) ReadsFault → Result (List (List ℕ)) ReadsFault
contents_with (Err fault) more = Err fault
contents_with (Ok bytes) (Err fault) = Err fault
contents_with (Ok bytes) (Ok more) = Ok (bytes ∷ more)

-- the bytes of files, of which the first has this place; or the first that can't be read
abbrev pub contents_from : ℕ → ℕ → Contents → List (List ℕ) → Result (List (List ℕ)) ReadsFault
contents_from place limit held [] = Ok []
contents_from place limit held (name ∷ names) = contents_with (file_by place limit (held name)) (contents_from (place + 1) limit held names)

abbrev pub files_with : Result (List (List ℕ)) ReadsFault → Result (List ℕ) ReadsFault → Result JobFiles ReadsFault
files_with (Err fault) resolution = Err fault
files_with (Ok objects) (Err fault) = Err fault
files_with (Ok objects) (Ok resolution) = Ok (record { objects = objects; resolution = resolution })

-- the files of a job, the objects in order and then the resolution; or the first that can't be read
abbrev pub files_by : ℕ → Contents → Job → Result JobFiles ReadsFault
files_by limit held job = files_with (contents_from 0 limit held job.objects) (file_by (length job.objects) limit (held job.resolution))

-- ---- what reading gives: this, but that a store may fail at each file that is reached, and memory may run out

abbrev pub GivesFile : ℕ → ℕ → Option (List ℕ) → Result (List ℕ) ReadsFault → Type 0
GivesFile place limit file (Ok bytes) = file_by place limit file ≡ Ok bytes
GivesFile place limit file (Err (Failed failed)) = failed ≡ place
GivesFile place limit file (Err TooLong) = file_by place limit file ≡ Err TooLong
GivesFile place limit file (Err NoMemory) = Unit {0}

abbrev pub GivesContents : ℕ → Contents → List (List ℕ) → Result (List (List ℕ)) ReadsFault → Type 0
GivesContents limit held names (Ok contents) = contents_from 0 limit held names ≡ Ok contents
GivesContents limit held names (Err (Failed place)) = IsReached limit held names place
GivesContents limit held names (Err TooLong) = contents_from 0 limit held names ≡ Err TooLong
GivesContents limit held names (Err NoMemory) = Unit {0}

abbrev pub GivesFiles : ℕ → Contents → Job → Result JobFiles ReadsFault → Type 0
GivesFiles limit held job (Ok files) = files_by limit held job ≡ Ok files
GivesFiles limit held job (Err (Failed place)) = IsReached limit held (reads_of job) place
GivesFiles limit held job (Err TooLong) = files_by limit held job ≡ Err TooLong
GivesFiles limit held job (Err NoMemory) = Unit {0}

-- one for a read at which the store failed
abbrev pub failures : {A : Type 0} → Result A ReadsFault → ℕ
failures (Ok a) = 0
failures (Err (Failed place)) = 1
failures (Err TooLong) = 0
failures (Err NoMemory) = 0

-- what was read has an object for each name, and each file is within the limit
abbrev pub IsSuited : ℕ → Job → Result JobFiles ReadsFault → Type 0
IsSuited limit job (Ok files) = (length files.objects ≡ length job.objects) × All (λ bytes. length bytes ≤ limit) files.objects × (length files.resolution ≤ limit)
IsSuited limit job (Err fault) = Unit {0}

-- ---- how many bytes are read

-- those of a file and of what is read after it; nothing is read after a file that can't be read
abbrev pub size_by : ℕ → Option (List ℕ) → ℕ → ℕ
size_by limit None more = 0
size_by limit (Some bytes) more = if nat_lt limit (length bytes) then 0 else length bytes + more

abbrev pub size_of : ℕ → Contents → List (List ℕ) → ℕ
size_of limit held [] = 0
size_of limit held (name ∷ names) = size_by limit (held name) (size_of limit held names)

abbrev pub sizes_of : ℕ → Contents → Job → ℕ
sizes_of limit held job = size_of limit held (reads_of job)

-- those of all jobs
abbrev pub batch_of : ℕ → Contents → List Job → ℕ
batch_of limit held jobs = sum_by (λ job. sizes_of limit held job) jobs

-- those of the one file of which this is what reading gave
abbrev pub size_read : Result (List ℕ) ReadsFault → ℕ
size_read (Ok bytes) = length bytes
size_read (Err fault) = 0

-- those of files of which this is what reading gave, at the least: where there was no memory, it is not told how many were read
abbrev pub size_given : {A : Type 0} → ℕ → Contents → List (List ℕ) → Result A ReadsFault → ℕ
size_given limit held names (Ok a) = size_of limit held names
size_given limit held names (Err (Failed place)) = size_of limit held (take place names)
size_given limit held names (Err TooLong) = size_of limit held names
size_given limit held names (Err NoMemory) = 0

-- those of all jobs
abbrev pub batch_given : ℕ → Contents → List Job → List (Result JobFiles ReadsFault) → ℕ
batch_given limit held [] readings = 0
batch_given limit held (job ∷ jobs) [] = 0
batch_given limit held (job ∷ jobs) (reading ∷ readings) = size_given limit held (reads_of job) reading + batch_given limit held jobs readings
