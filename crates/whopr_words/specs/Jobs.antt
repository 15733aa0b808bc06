-- Job files: a line `batch J cache C`, and J times a line `link OUT RES partitions N workers W growth G versions V objects
-- K` and K lines with one name. J is 1 to 64, C 1 to 4,096, N 1 to 128, W 1 to 64, G 0 to 100, V 1 to 8, K 1 to 256. No OUT
-- stands twice, and the workers of all links are at most 256. Nothing follows.
use Rattle.std.specs.Prelude.{◌≡◌, ◌⊎◌, ℕ, zero, suc, ◌+◌, List, [], ◌∷◌, ◌++◌, ◌&&◌, Bool, not, nat_le, codes, sum_by, Option, Some, Result, Ok, Err}
use Rattle.std.specs.List.{list_any}
use Rattle.std.specs.Str.{bytes_eq}
use Rattle.gimple_ir.specs.declared.plan.Options.{Options}
use Rattle.text_lines.specs.Lines.{Lines, lines_in}
use Rattle.text_lines.specs.Words.{words_of, name_of}
use Rattle.text_lines.specs.Reading.{line_by, ◌then◌, counted, at_end}
use Rattle.whopr_words.specs.declared.fault.JobError.{JobError}
use Rattle.whopr_words.specs.declared.fault.JobError.TheVariants.{Fault, NoMemory}
use Rattle.whopr_words.specs.declared.job_file.Jobs.{Jobs}
use Rattle.whopr_words.specs.declared.job_file.Job.{Job}
use Rattle.whopr_words.specs.declared.job_file.Link.{Link}
use Rattle.whopr_words.specs.WordReading.{◌>>=◌, when, is_nil, word_is, first_by, number_by}

-- partitions N workers W growth G versions V
unfoldable pub options_by : List (List ℕ) → Option (Options × List (List ℕ))
options_by words =
    number_by (codes "partitions") 1 128 words >>= λ partitions.
    number_by (codes "workers") 1 64 partitions.1 >>= λ workers.
    number_by (codes "growth") 0 100 workers.1 >>= λ growth.
    number_by (codes "versions") 1 8 growth.1 >>= λ versions.
    Some (record { partitions = partitions.0; workers = workers.0; growth = growth.0; versions = versions.0; code = 1 }, versions.1)

-- a link before this one writes the same image
abbrev pub stands_before : List Job → List ℕ → Bool
stands_before before out = list_any (λ job. bytes_eq job.out out) before

abbrev pub workers_of : List Job → ℕ
workers_of jobs = sum_by (λ job. job.options.workers) jobs

abbrev pub is_allowed : List Job → List ℕ → ℕ → Bool
is_allowed before out workers = not (stands_before before out) && nat_le (workers_of before + workers) 256

-- the line link OUT RES partitions N workers W growth G versions V objects K, behind these links
unfoldable pub link_of : List Job → List (List ℕ) → Option Link
link_of before words =
    word_is (codes "link") words >>= λ names.
    first_by name_of names >>= λ out.
    first_by name_of out.1 >>= λ resolution.
    options_by resolution.1 >>= λ options.
    number_by (codes "objects") 1 256 options.1 >>= λ objects.
    when (is_nil objects.1 && is_allowed before out.0 options.0.workers)
    (Some (record { out = out.0; resolution = resolution.0; options = options.0; objects = objects.0 }))

abbrev pub link_at : List Job → List ℕ → Option Link
link_at before line = link_of before (words_of line)

abbrev pub link_by : List Job → Lines → Result (Link × Lines) ℕ
link_by before lines = line_by (link_at before) lines

-- a line with one name
abbrev pub object_at : ℕ → Lines → Result (List ℕ × Lines) ℕ
object_at place lines = line_by name_of lines

abbrev pub job_of : ℕ → Link → List (List ℕ) → Job
job_of line link objects = record { line = line; out = link.out; resolution = link.resolution; options = link.options; objects = objects }

-- a link and its objects, behind these links
abbrev pub job_by : List Job → Lines → Result (Job × Lines) ℕ
job_by before lines =
    link_by before lines
    then (λ link. counted object_at link.0.objects 0 link.1
    then (λ objects. Ok (job_of lines.number link.0 objects.0, objects.1)))

-- so many more links, behind these
abbrev pub links_after : ℕ → List Job → Lines → Result (List Job × Lines) ℕ
links_after zero before lines = Ok (before, lines)
links_after (suc count) before lines = job_by before lines then (λ job. links_after count (before ++ job.0 ∷ []) job.1)

-- the line batch J cache C
unfoldable pub batch_of : List (List ℕ) → Option (ℕ × ℕ)
batch_of words =
    number_by (codes "batch") 1 64 words >>= λ count.
    number_by (codes "cache") 1 4096 count.1 >>= λ cache.
    when (is_nil cache.1) (Some (count.0, cache.0))

abbrev pub batch_at : List ℕ → Option (ℕ × ℕ)
batch_at line = batch_of (words_of line)

abbrev pub jobs_by : Lines → Result Jobs ℕ
jobs_by lines =
    line_by batch_at lines
    then (λ batch. links_after batch.0.0 [] batch.1
    then (λ links. at_end (record { cache = batch.0.1; links = links.0 }) links.1))

abbrev pub with_fault : Result Jobs ℕ → Result Jobs JobError
with_fault (Ok jobs) = Ok jobs
with_fault (Err line) = Err (Fault line)

-- the jobs that a text spells, or its first bad line; a missing line is the one behind the last
abbrev pub jobs_in : List ℕ → Result Jobs JobError
jobs_in text = with_fault (jobs_by (lines_in text))

-- the jobs or the fault of the text, unless memory ran out
abbrev pub Answers : Result Jobs JobError → Result Jobs JobError → Type 0
Answers (Ok jobs) defined = defined ≡ Ok jobs
Answers (Err e) defined = (defined ≡ Err e) ⊎ (e ≡ NoMemory)
