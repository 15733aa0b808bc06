-- What is answered where no count of faults rises.
use Rattle.std.proofs.Common.{◌≡◌, ℕ, ◌≤◌, List, [], ◌∷◌, Option, Some, None, Result, Ok, Err, sym, ◌∙◌, ap, refl, arith, length}
use Rattle.std.specs.Prelude.{sum_by, IfSome, IfOk, IfErr}
use Rattle.std.specs.List.{AllZip}
use Rattle.std.proofs.lemmas.List.Sums.{sum_by-cons}
use Rattle.outer_files.specs.Outside.{Contents, Rose, RoseBy, WhereTold}
use Rattle.whopr_words.specs.declared.job_file.Job.{Job}
use Rattle.whopr_words.specs.declared.job_file.Jobs.{Jobs}
use Rattle.whopr_words.specs.Jobs.{jobs_in}
use Rattle.job_links.specs.declared.line.JobLine.{JobLine}
use Rattle.job_links.specs.declared.line.JobLine.TheVariants.{Done, Object, TooLong, Limit, Read, Write, Memory, Unresolved}
use Rattle.job_links.specs.declared.line.Report.{Report}
use Rattle.job_links.specs.declared.line.JobsRefusal.{JobsRefusal}
use Rattle.job_links.specs.declared.line.JobsRefusal.TheVariants as refusal
use Rattle.job_links.specs.Reads.{batch_of}
use Rattle.job_links.specs.Answers.{IsAnswered, AreAnswered, AreJobs, IsCause, IsValid, IsLineOf, IsComplete, failures_in}

-- ---- a job without a failure

line_alone : (limit : ℕ) (held : Contents) (job : Job) (line : JobLine) (file : Option (List ℕ)) → failures_in line ≡ 0 → IsAnswered limit held job line file → IsLineOf limit held job line
line_alone limit held job (Done bytes) file none h = (h.image, h.gives, h.count)
line_alone limit held job (Object number fault) file none h = h.0
line_alone limit held job TooLong file none h = h.0
line_alone limit held job (Limit passed) file none h = h.0
line_alone limit held job (Read place) file none h = absurd (omega (arith, none))
line_alone limit held job Write file none h = absurd (omega (arith, none))
line_alone limit held job Memory file none h = tt
line_alone limit held job (Unresolved fault) file none h = h.0

sum_first : (line : JobLine) (lines : List JobLine) → sum_by failures_in (line ∷ lines) ≡ 0 → failures_in line ≡ 0
sum_first line lines none = omega (arith, none, sum_by-cons failures_in line lines)

sum_rest : (line : JobLine) (lines : List JobLine) → sum_by failures_in (line ∷ lines) ≡ 0 → sum_by failures_in lines ≡ 0
sum_rest line lines none = omega (arith, none, sum_by-cons failures_in line lines)

lines_alone : (limit : ℕ) (held now : Contents) (jobs : List Job) (lines : List JobLine) → sum_by failures_in lines ≡ 0
    → AllZip (λ job line. IsAnswered limit held job line (now job.out)) jobs lines → AllZip (IsLineOf limit held) jobs lines
lines_alone limit held now [] [] none h = tt
lines_alone limit held now [] (line ∷ lines) none h = absurd h
lines_alone limit held now (job ∷ jobs) [] none h = absurd h
lines_alone limit held now (job ∷ jobs) (line ∷ lines) none h =
    (line_alone limit held job line (now job.out) (sum_first line lines none) h.0, lines_alone limit held now jobs lines (sum_rest line lines none) h.1)

none_rose : (n before now : ℕ) → before ≤ now → RoseBy n before now → ¬ Rose before now → n ≡ 0
none_rose n before now le rose not_rose = grind (arith, le, rose, not_rose)

-- ---- a valid command

same_text : (file : Option (List ℕ)) (a b : List ℕ) → file ≡ Some a → file ≡ Some b → a ≡ b
same_text file a b is other = grind (arith, is, other)

same_jobs : (limit : ℕ) (held : Contents) (name : List ℕ) (a b : Jobs) → AreJobs limit held name a → AreJobs limit held name b → a ≡ b
same_jobs limit held name a b x y =
    let same = same_text (held name) x.text y.text x.is_held y.is_held in
    let spelled : Ok a ≡ Ok b = sym x.spelled ∙ ap jobs_in same ∙ y.spelled in
    grind (arith, spelled)

no_cause : (limit : ℕ) (held : Contents) (name : List ℕ) (refused : JobsRefusal) → IsCause limit held name refused → (refused ≡ refusal.Read → ⊥) → IsValid limit held name
    → refused ≡ refusal.Memory
no_cause limit held name refusal.Read cause no_read valid = absurd (no_read refl)
no_cause limit held name refusal.TooLong cause no_read valid =
    let are = valid.are in
    let same = same_text (held name) cause.0 are.text cause.1 are.is_held in
    absurd (omega (arith, cause.2, are.within, ap (λ (t : List ℕ). length t) same))
no_cause limit held name (refusal.Jobs line) cause no_read valid =
    let are = valid.are in
    let same = same_text (held name) cause.text are.text cause.is_held are.is_held in
    let spelled = sym cause.spelled ∙ ap jobs_in same ∙ are.spelled in
    grind (arith, spelled)
no_cause limit held name refusal.BatchBytes cause no_read valid =
    let same = same_jobs limit held name cause.jobs valid.jobs cause.are valid.are in
    absurd (omega (arith, cause.large, valid.small, ap (λ (j : Jobs). batch_of limit held j.links) same))
no_cause limit held name refusal.Memory cause no_read valid = refl

-- ---- what is answered

pub complete : (limit : ℕ) (name : List ℕ) (result : Result Report JobsRefusal) (before now : ℕ) (a b : Option Contents)
    → IfOk result (λ report. WhereTold a b (AreAnswered limit report.jobs.links report.lines)) → IfOk result (λ report. RoseBy (sum_by failures_in report.lines) before now)
    → IfErr result (λ refused. IfSome a (λ held. IsCause limit held name refused)) → ((refused : JobsRefusal) → result ≡ Err refused → refused ≡ refusal.Read → Rose before now)
    → before ≤ now → ¬ Rose before now → IfSome a (λ held. IsComplete limit held name result)
complete limit name result before now None b answered counted cause failed le not_rose = tt
complete limit name (Ok report) before now (Some held) None answered counted cause failed le not_rose = absurd answered
complete limit name (Ok report) before now (Some held) (Some new) answered counted cause failed le not_rose =
    lines_alone limit held new report.jobs.links report.lines (none_rose _ before now le counted not_rose) answered.each
complete limit name (Err refused) before now (Some held) b answered counted cause failed le not_rose =
    λ valid. no_cause limit held name refused cause (λ read. not_rose (failed refused refl read)) valid
