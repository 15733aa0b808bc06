-- One more link behind those that are read.
use Rattle.std.proofs.Common.{◌≡◌, ℕ, suc, ◌+◌, ◌-◌, ◌<◌, ◌≤◌, List, [], ◌∷◌, ◌++◌, Result, Ok, sym, ap, ◌∙◌, arith}
use Rattle.std.proofs.lemmas.List.Sums.{sum_by-append}
use Rattle.text_lines.specs.declared.fault.LineError.{LineError}
use Rattle.text_lines.specs.declared.fault.LineError.TheVariants.{BadLine, NoMemory}
use Rattle.text_lines.specs.Lines.{Lines}
use Rattle.text_lines.specs.Reading.{◌then◌, Refuses}
use Rattle.whopr_words.specs.declared.job_file.Job.{Job}
use Rattle.whopr_words.specs.Jobs.{job_by, links_after, workers_of}

one_less : (count done : ℕ) → done < count → count - done ≡ suc (count - (done + 1))
one_less count done h = omega arith

next_of : (count done : ℕ) (before : List Job) (lines : Lines) → done < count
    → links_after (count - done) before lines ≡ job_by before lines then (λ job. links_after (count - (done + 1)) (before ++ job.0 ∷ []) job.1)
next_of count done before lines lt = ap (λ n. links_after n before lines) (one_less count done lt)

pub taken_link : (count done : ℕ) (before : List Job) (lines rest : Lines) (job : Job) (whole : Result (List Job × Lines) ℕ) → done < count
    → job_by before lines ≡ Ok (job, rest) → links_after (count - done) before lines ≡ whole → links_after (count - (done + 1)) (before ++ job ∷ []) rest ≡ whole
taken_link count done before lines rest job whole lt is h =
    sym (next_of count done before lines lt ∙ ap (λ r. r then (λ one. links_after (count - (done + 1)) (before ++ one.0 ∷ []) one.1)) is) ∙ h

pub refused_link : (e : LineError) (count done : ℕ) (before : List Job) (lines : Lines) (whole : Result (List Job × Lines) ℕ) → done < count
    → Refuses e (job_by before lines) → links_after (count - done) before lines ≡ whole → Refuses e whole
refused_link (BadLine line) count done before lines whole lt is h =
    sym h ∙ next_of count done before lines lt ∙ ap (λ r. r then (λ one. links_after (count - (done + 1)) (before ++ one.0 ∷ []) one.1)) is
refused_link NoMemory count done before lines whole lt is h = tt

pub few_with : (before : List Job) (job : Job) → workers_of before + job.options.workers ≤ 256 → workers_of (before ++ job ∷ []) ≤ 256
few_with before job h = rw sum_by-append (omega arith)
