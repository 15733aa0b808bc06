-- The run of a job's program: what the bytes of its files come to, why its command is refused, and what then becomes of the command.
use Rattle.std.proofs.Common.{◌≡◌, ◌≢◌, ℕ, ◌≤◌, List, [], ◌∷◌, ◌++◌, ◌⊎◌, Option, Some, None, Result, Ok, Err, refl, sym, ◌∙◌, ap, inl, inr, arith, length, take, drop, subst, Vec}
use Rattle.std.specs.Prelude.{IfSome, IfOk, IfErr, IsTrue, unwrap_or, codes, decimal}
use Rattle.std.specs.Option.{ForSome}
use Rattle.std.specs.declared.alloc.Global.{Global}
use Rattle.std.proofs.lemmas.List.{append-nil}
use Rattle.std.proofs.Math.Seq.{take-append_seam, drop-append_seam}
use Rattle.outer_files.specs.Outside.{Contents, WhereTold, Writes, WritesPrefix, IsLonger, Rose, RoseBy}
use Rattle.gimple_ir.specs.declared.types.Program.{Program}
use Rattle.gimple_meaning.specs.Run.{src, outcome_of, output_of}
use Rattle.gimple_meaning.specs.declared.outcome.Outcome.{Outcome as Standing}
use Rattle.gimple_meaning.specs.declared.outcome.Outcome.TheVariants as stands
use Rattle.whopr_words.specs.declared.fault.JobError.{JobError}
use Rattle.whopr_words.specs.declared.fault.JobError.TheVariants as job_error
use Rattle.whopr_words.specs.declared.job_file.Job.{Job}
use Rattle.whopr_words.specs.declared.job_file.Jobs.{Jobs as AllJobs}
use Rattle.whopr_words.specs.Jobs.{jobs_in}
use Rattle.whopr_words.specs.Commands.{Spoken, Interp}
use Rattle.whopr_top.specs.declared.refusal.Refusal.{Refusal}
use Rattle.whopr_top.specs.declared.refusal.Refusal.TheVariants.{NoCommand, Object, TooLong, TooMuch, Limit, Read, ReadOf, Write, Memory, Resolution, Text, Jobs, Image}
use Rattle.whopr_top.specs.Reads.{AreHeld, IsOverLimit, IsReached, IsAbsent, held_under, input_of, job_reads, only_reads, text_reads, reads_of}
use Rattle.whopr_top.specs.Lines.{standing_line, spaced, jobs_line}
use Rattle.whopr_top.specs.Judgements.{Judgement, Refuses, Gives, Judges, JudgesRun, JudgesJob, JudgesOnly, only_of, only_job, job_program, standing_by}
use Rattle.job_links.specs.Reads.{reads_of as job_files}
use Rattle.whopr_top.specs.Refusal.{status_of, refusal_line}
use Rattle.whopr_top.specs.Interpreting.{Answers, ComesTo, IsStop}
use Rattle.whopr_top.specs.Outputs.{IsRefused, IsJudged, Faithful}
use Rattle.whopr_top.specs.Answers.{is_status, is_early, lines_of}
use Rattle.whopr_top.specs.Attempts.{Attempt, Counted, Lined, Judged}
use Rattle.whopr_top.proofs.Judging.{told_map, told_at, told_both, refused_by, done_by, cut_short_by, failed, lacked, too_long, one_written, one_cut_short}
use Rattle.whopr_top.proofs.Telling.{line_is_some}
use Rattle.whopr_top.proofs.ReadingFiles.{within_of, held_more, reached_at, over_at, over_not_absent, held_not_absent}

-- ---- of what is told

told_all : {A : Type 0} (P : A → Type 0) (a : Option A) → ((x : A) → P x) → IfSome a P
told_all P None f = tt
told_all P (Some x) f = f x

told_two : {A : Type 0} (P Q R : A → Type 0) (a b : Option A) → b ≡ a → ((x : A) → P x → Q x → R x) → IfSome a P → IfSome b Q → IfSome a R
told_two P Q R None b same f p q = tt
told_two P Q R (Some x) b same f p q = f x p (subst (λ (o : Option _). IfSome o Q) same q)

-- ---- files that are read before others

reached_more : (limit : ℕ) (held : Contents) (names rest : List (List ℕ)) (name : List ℕ) → IsReached limit held names name → IsReached limit held (names ++ rest) name
reached_more limit held [] rest name reached = absurd reached
reached_more limit held (first ∷ names) rest name (inl is) = inl is
reached_more limit held (first ∷ names) rest name (inr more) = inr (more.0, reached_more limit held names rest name more.1)

over_more : (limit : ℕ) (held : Contents) (names rest : List (List ℕ)) → IsOverLimit limit held names → IsOverLimit limit held (names ++ rest)
over_more limit held [] rest over = absurd over
over_more limit held (name ∷ names) rest (inl long) = inl long
over_more limit held (name ∷ names) rest (inr more) = inr (more.0, over_more limit held names rest more.1)

-- the bytes that are read are those that are held
under : (limit : ℕ) (held : Contents) (names cs : List (List ℕ)) → AreHeld limit held names cs → held_under held names ≡ cs
under limit held [] [] read = refl
under limit held [] (c ∷ cs) read = absurd read
under limit held (name ∷ names) [] read = absurd read
under limit held (name ∷ names) (c ∷ cs) read =
    ap (λ x. x ∷ held_under held names) (ap (λ o. unwrap_or o []) read.0) ∙ ap (λ xs. c ∷ xs) (under limit held names cs read.2)

as_many : (limit : ℕ) (held : Contents) (names cs : List (List ℕ)) → AreHeld limit held names cs → length names ≡ length cs
as_many limit held [] [] read = refl
as_many limit held [] (c ∷ cs) read = absurd read
as_many limit held (name ∷ names) [] read = absurd read
as_many limit held (name ∷ names) (c ∷ cs) read = omega (arith, as_many limit held names cs read.2)

-- ---- the program of a job whose files were read

reads_are : (limit : ℕ) (held : Contents) (input : List ℕ) (job : Job) (cs : List (List ℕ)) (program : Result Program Judgement) → AreHeld limit held (job_files job) cs
    → job_program job cs ≡ program → job_reads held input job ≡ job_files job ++ input_of input program
reads_are limit held input job cs program read is =
    ap (λ p. job_files job ++ input_of input p) (ap (job_program job) (under limit held (job_files job) cs read) ∙ is)

judged_at : (output : List ℕ) (steps : ℕ) (job : Job) (cs rest : List (List ℕ)) (program : Result Program Judgement) (judgement : Judgement) → length (job_files job) ≡ length cs
    → job_program job cs ≡ program → JudgesRun output steps program rest judgement → JudgesJob output steps job (cs ++ rest) judgement
judged_at output steps job cs rest program judgement same is judged =
    let front : take (length (job_files job)) (cs ++ rest) ≡ cs = ap (λ n. take n (cs ++ rest)) same ∙ take-append_seam cs rest in
    let back : drop (length (job_files job)) (cs ++ rest) ≡ rest = ap (λ n. drop n (cs ++ rest)) same ∙ drop-append_seam cs rest in
    let found = ap (job_program job) front ∙ is in
    subst (λ (p : Result Program Judgement). JudgesRun output steps p (drop (length (job_files job)) (cs ++ rest)) judgement) (sym found)
    (subst (λ (r : List (List ℕ)). JudgesRun output steps program r judgement) (sym back) judged)

-- there is none
stops_at : (limit : ℕ) (held : Contents) (input output : List ℕ) (steps : ℕ) (job : Job) (cs : List (List ℕ)) (s : ℕ) (x : List ℕ) → AreHeld limit held (job_files job) cs
    → job_program job cs ≡ Err (Refuses s x) → ComesTo limit held (job_reads held input job) (JudgesJob output steps job) (Refuses s x)
stops_at limit held input output steps job cs s x read is =
    let names = reads_are limit held input job cs (Err (Refuses s x)) read is ∙ append-nil (job_files job) in
    let all = subst (λ (bytes : List (List ℕ)). AreHeld limit held (job_files job) bytes) (sym (append-nil cs)) read in
    record {
      contents = cs ++ [];
      read = subst (λ (ns : List (List ℕ)). AreHeld limit held ns (cs ++ [])) (sym names) all;
      judged = judged_at output steps job cs [] (Err (Refuses s x)) (Refuses s x) (as_many limit held (job_files job) cs read) is refl;
    }

-- it is run on its input
runs_at : (limit : ℕ) (held : Contents) (input output : List ℕ) (steps : ℕ) (job : Job) (cs : List (List ℕ)) (program : Program) (given : List ℕ) → AreHeld limit held (job_files job) cs
    → job_program job cs ≡ Ok program → held input ≡ Some given → length given ≤ limit
    → ComesTo limit held (job_reads held input job) (JudgesJob output steps job) (standing_by output (src program given steps))
runs_at limit held input output steps job cs program given read is has within =
    record {
      contents = cs ++ given ∷ [];
      read = subst (λ (ns : List (List ℕ)). AreHeld limit held ns (cs ++ given ∷ [])) (sym (reads_are limit held input job cs (Ok program) read is))
          (held_more limit held (job_files job) cs input given read has within);
      judged = judged_at output steps job cs (given ∷ []) (Ok program) (standing_by output (src program given steps)) (as_many limit held (job_files job) cs read) is refl;
    }

-- ---- by what is told

pub file_reached : (limit : ℕ) (old : Option Contents) (input : List ℕ) (job : Job) (name : List ℕ) → IfSome old (λ held. IsReached limit held (job_files job) name)
    → IfSome old (λ held. IsReached limit held (job_reads held input job) name)
file_reached limit old input job name =
    told_map (λ held. IsReached limit held (job_files job) name) (λ held. IsReached limit held (job_reads held input job) name) old
    (λ held reached. reached_more limit held (job_files job) (input_of input (job_program job (held_under held (job_files job)))) name reached)

pub file_failed : (limit : ℕ) (old : Option Contents) (input : List ℕ) (job : Job) (name called : List ℕ) (before now : ℕ) → called ≡ name
    → Rose before now × IfSome old (λ held. IsReached limit held (job_files job) name) → Rose before now × IfSome old (λ held. IsReached limit held (job_reads held input job) called)
file_failed limit old input job name called before now is (rose, reached) =
    (rose, subst (λ (n : List ℕ). IfSome old (λ held. IsReached limit held (job_reads held input job) n)) (sym is) (file_reached limit old input job name reached))

pub file_over : (limit : ℕ) (old : Option Contents) (input : List ℕ) (job : Job) → IfSome old (λ held. IsOverLimit limit held (job_files job))
    → IfSome old (λ held. IsOverLimit limit held (job_reads held input job))
file_over limit old input job =
    told_map (λ held. IsOverLimit limit held (job_files job)) (λ held. IsOverLimit limit held (job_reads held input job)) old
    (λ held over. over_more limit held (job_files job) (input_of input (job_program job (held_under held (job_files job)))) over)

pub input_reached : (limit : ℕ) (old : Option Contents) (input : List ℕ) (job : Job) (cs : List (List ℕ)) (program : Program) → IfSome old (λ held. AreHeld limit held (job_files job) cs)
    → job_program job cs ≡ Ok program → IfSome old (λ held. IsReached limit held (job_reads held input job) input)
input_reached limit old input job cs program read is =
    told_map (λ held. AreHeld limit held (job_files job) cs) (λ held. IsReached limit held (job_reads held input job) input) old
    (λ held all. subst (λ (ns : List (List ℕ)). IsReached limit held ns input) (sym (reads_are limit held input job cs (Ok program) all is))
    (reached_at limit held (job_files job) cs input [] all))
    read

pub input_over : (limit : ℕ) (old between : Option Contents) (input : List ℕ) (job : Job) (cs : List (List ℕ)) (program : Program) → between ≡ old
    → IfSome old (λ held. AreHeld limit held (job_files job) cs) → job_program job cs ≡ Ok program → IfSome between (λ held. IsLonger limit (held input))
    → IfSome old (λ held. IsOverLimit limit held (job_reads held input job))
input_over limit old between input job cs program same read is long =
    told_two (λ held. AreHeld limit held (job_files job) cs) (λ held. IsLonger limit (held input)) (λ held. IsOverLimit limit held (job_reads held input job)) old between same
    (λ held all longer. subst (λ (ns : List (List ℕ)). IsOverLimit limit held ns) (sym (reads_are limit held input job cs (Ok program) all is))
    (over_at limit held (job_files job) cs input [] all longer))
    read long

pub run_comes : (limit : ℕ) (old between : Option Contents) (input output : List ℕ) (steps : ℕ) (job : Job) (cs : List (List ℕ)) (program : Program) (given written text : List ℕ)
    → between ≡ old → IfSome old (λ held. AreHeld limit held (job_files job) cs) → job_program job cs ≡ Ok program → IfSome between (λ held. held input ≡ Some given)
    → length given ≤ limit → text ≡ standing_line (outcome_of (src program given steps)) → written ≡ output_of (src program given steps)
    → IfSome old (λ held. ComesTo limit held (job_reads held input job) (JudgesJob output steps job) (Gives ((output, written) ∷ []) text))
run_comes limit old between input output steps job cs program given written text same read is has within says wrote =
    told_two (λ held. AreHeld limit held (job_files job) cs) (λ held. held input ≡ Some given)
    (λ held. ComesTo limit held (job_reads held input job) (JudgesJob output steps job) (Gives ((output, written) ∷ []) text)) old between same
    (λ held all here. rw (says, wrote) (runs_at limit held input output steps job cs program given all is here within))
    read has

told_stops : (limit : ℕ) (old : Option Contents) (input output : List ℕ) (steps : ℕ) (job : Job) (cs : List (List ℕ)) (s : ℕ) (x : List ℕ)
    → IfSome old (λ held. AreHeld limit held (job_files job) cs) → job_program job cs ≡ Err (Refuses s x)
    → IfSome old (λ held. ComesTo limit held (job_reads held input job) (JudgesJob output steps job) (Refuses s x))
told_stops limit old input output steps job cs s x read is =
    told_map (λ held. AreHeld limit held (job_files job) cs) (λ held. ComesTo limit held (job_reads held input job) (JudgesJob output steps job) (Refuses s x)) old
    (λ held all. stops_at limit held input output steps job cs s x all is) read

-- the files have no program
pub program_stops : (limit : ℕ) (old : Option Contents) (input output : List ℕ) (steps : ℕ) (job : Job) (cs : List (List ℕ)) (before now : ℕ) (refusal : Refusal)
    → IfSome old (λ held. AreHeld limit held (job_files job) cs) → Answers {A = Program} (Err refusal) (job_program job cs)
    → IsStop limit (λ held. job_reads held input job) (JudgesJob output steps job) old before now refusal
program_stops limit old input output steps job cs before now NoCommand read is = absurd is
program_stops limit old input output steps job cs before now (Object number fault) read is = told_stops limit old input output steps job cs (status_of (Object number fault)) (refusal_line (Object number fault)) read is
program_stops limit old input output steps job cs before now TooLong read is = absurd is
program_stops limit old input output steps job cs before now TooMuch read is = told_stops limit old input output steps job cs (status_of TooMuch) (refusal_line TooMuch) read is
program_stops limit old input output steps job cs before now (Limit passed) read is = told_stops limit old input output steps job cs (status_of (Limit passed)) (refusal_line (Limit passed)) read is
program_stops limit old input output steps job cs before now (Read name) read is = absurd is
program_stops limit old input output steps job cs before now (ReadOf name) read is = absurd is
program_stops limit old input output steps job cs before now (Write name) read is = absurd is
program_stops limit old input output steps job cs before now Memory read is = tt
program_stops limit old input output steps job cs before now (Resolution kind place) read is = told_stops limit old input output steps job cs (status_of (Resolution kind place)) (refusal_line (Resolution kind place)) read is
program_stops limit old input output steps job cs before now (Text at kind) read is = told_stops limit old input output steps job cs (status_of (Text at kind)) (refusal_line (Text at kind)) read is
program_stops limit old input output steps job cs before now (Jobs number) read is = told_stops limit old input output steps job cs (status_of (Jobs number)) (refusal_line (Jobs number)) read is
program_stops limit old input output steps job cs before now (Image offset) read is = told_stops limit old input output steps job cs (status_of (Image offset)) (refusal_line (Image offset)) read is

-- ---- the only job of a job file that was read

text_reads_are : (limit : ℕ) (held : Contents) (jobs input output text : List ℕ) (steps : ℕ) (r : Result Job Judgement) → held jobs ≡ Some text → only_job (jobs_in text) ≡ r
    → reads_of held (Interp jobs steps input output) ≡ jobs ∷ only_reads held input r
text_reads_are limit held jobs input output text steps r has is =
    ap (λ o. jobs ∷ text_reads held input o) has ∙ ap (λ x. jobs ∷ only_reads held input x) is

-- the text has another form
pub no_job : (limit : ℕ) (old : Option Contents) (jobs input output text : List ℕ) (steps s : ℕ) (x : List ℕ) → IfSome old (λ held. held jobs ≡ Some text) → length text ≤ limit
    → only_job (jobs_in text) ≡ Err (Refuses s x)
    → IfSome old (λ held. ComesTo limit held (reads_of held (Interp jobs steps input output)) (Judges (Interp jobs steps input output)) (Refuses s x))
no_job limit old jobs input output text steps s x has within is =
    told_map (λ held. held jobs ≡ Some text) (λ held. ComesTo limit held (reads_of held (Interp jobs steps input output)) (Judges (Interp jobs steps input output)) (Refuses s x)) old
    (λ held here. record {
      contents = text ∷ [];
      read = subst (λ (ns : List (List ℕ)). AreHeld limit held ns (text ∷ [])) (sym (text_reads_are limit held jobs input output text steps (Err (Refuses s x)) here is)) (here, within, tt);
      judged = subst (λ (r : Result Job Judgement). JudgesOnly output steps r [] (Refuses s x)) (sym is) refl;
    })
    has

only_comes : (limit : ℕ) (held : Contents) (jobs input output text : List ℕ) (steps : ℕ) (job : Job) (judgement : Judgement) → held jobs ≡ Some text → length text ≤ limit
    → only_job (jobs_in text) ≡ Ok job → ComesTo limit held (job_reads held input job) (JudgesJob output steps job) judgement
    → ComesTo limit held (reads_of held (Interp jobs steps input output)) (Judges (Interp jobs steps input output)) judgement
only_comes limit held jobs input output text steps job judgement has within is comes = record {
  contents = text ∷ comes.contents;
  read = subst (λ (ns : List (List ℕ)). AreHeld limit held ns (text ∷ comes.contents)) (sym (text_reads_are limit held jobs input output text steps (Ok job) has is)) (has, within, comes.read);
  judged = subst (λ (r : Result Job Judgement). JudgesOnly output steps r comes.contents judgement) (sym is) comes.judged;
}

pub told_comes : (limit : ℕ) (old between : Option Contents) (jobs input output text : List ℕ) (steps : ℕ) (job : Job) (judgement : Judgement) → between ≡ old
    → IfSome old (λ held. held jobs ≡ Some text) → length text ≤ limit → only_job (jobs_in text) ≡ Ok job
    → IfSome between (λ held. ComesTo limit held (job_reads held input job) (JudgesJob output steps job) judgement)
    → IfSome old (λ held. ComesTo limit held (reads_of held (Interp jobs steps input output)) (Judges (Interp jobs steps input output)) judgement)
told_comes limit old between jobs input output text steps job judgement same has within is =
    told_two (λ held. held jobs ≡ Some text) (λ held. ComesTo limit held (job_reads held input job) (JudgesJob output steps job) judgement)
    (λ held. ComesTo limit held (reads_of held (Interp jobs steps input output)) (Judges (Interp jobs steps input output)) judgement) old between same
    (λ held here comes. only_comes limit held jobs input output text steps job judgement here within is comes) has

only_over : (limit : ℕ) (old between : Option Contents) (jobs input output text : List ℕ) (steps : ℕ) (job : Job) → between ≡ old
    → IfSome old (λ held. held jobs ≡ Some text) → length text ≤ limit → only_job (jobs_in text) ≡ Ok job → IfSome between (λ held. IsOverLimit limit held (job_reads held input job))
    → IfSome old (λ held. IsOverLimit limit held (reads_of held (Interp jobs steps input output)))
only_over limit old between jobs input output text steps job same has within is =
    told_two (λ held. held jobs ≡ Some text) (λ held. IsOverLimit limit held (job_reads held input job))
    (λ held. IsOverLimit limit held (reads_of held (Interp jobs steps input output))) old between same
    (λ held here over. subst (λ (ns : List (List ℕ)). IsOverLimit limit held ns) (sym (text_reads_are limit held jobs input output text steps (Ok job) here is))
    (inr (within_of limit (held jobs) text here within, over))) has

only_reached : (limit : ℕ) (old between : Option Contents) (jobs input output text name : List ℕ) (steps : ℕ) (job : Job) → between ≡ old
    → IfSome old (λ held. held jobs ≡ Some text) → length text ≤ limit → only_job (jobs_in text) ≡ Ok job → IfSome between (λ held. IsReached limit held (job_reads held input job) name)
    → IfSome old (λ held. IsReached limit held (reads_of held (Interp jobs steps input output)) name)
only_reached limit old between jobs input output text name steps job same has within is =
    told_two (λ held. held jobs ≡ Some text) (λ held. IsReached limit held (job_reads held input job) name)
    (λ held. IsReached limit held (reads_of held (Interp jobs steps input output)) name) old between same
    (λ held here reached. subst (λ (ns : List (List ℕ)). IsReached limit held ns name) (sym (text_reads_are limit held jobs input output text steps (Ok job) here is))
    (inr (within_of limit (held jobs) text here within, reached))) has

pub jobs_reached : (limit : ℕ) (old : Option Contents) (jobs input output : List ℕ) (steps : ℕ)
    → IfSome old (λ held. IsReached limit held (reads_of held (Interp jobs steps input output)) jobs)
jobs_reached limit old jobs input output steps = told_all (λ held. IsReached limit held (reads_of held (Interp jobs steps input output)) jobs) old (λ held. inl refl)

pub jobs_over : (limit : ℕ) (old : Option Contents) (jobs input output : List ℕ) (steps : ℕ) → IfSome old (λ held. IsLonger limit (held jobs))
    → IfSome old (λ held. IsOverLimit limit held (reads_of held (Interp jobs steps input output)))
jobs_over limit old jobs input output steps =
    told_map (λ held. IsLonger limit (held jobs)) (λ held. IsOverLimit limit held (reads_of held (Interp jobs steps input output))) old (λ held long. inl long)

rose_since : (before middle now : ℕ) → before ≤ middle → Rose middle now → Rose before now
rose_since before middle now le rose = omega (arith, le, rose)

-- a refusal of the job is one of the command
pub job_stops : (limit : ℕ) (old between : Option Contents) (jobs input output text : List ℕ) (steps : ℕ) (job : Job) (before middle now : ℕ) (refusal : Refusal) → between ≡ old
    → before ≤ middle → IfSome old (λ held. held jobs ≡ Some text) → length text ≤ limit → only_job (jobs_in text) ≡ Ok job
    → IsStop limit (λ held. job_reads held input job) (JudgesJob output steps job) between middle now refusal
    → IsStop limit (λ held. reads_of held (Interp jobs steps input output)) (Judges (Interp jobs steps input output)) old before now refusal
job_stops limit old between jobs input output text steps job before middle now NoCommand same le has within is stop = absurd stop
job_stops limit old between jobs input output text steps job before middle now (Object number fault) same le has within is stop =
    told_comes limit old between jobs input output text steps job (Refuses (status_of (Object number fault)) (refusal_line (Object number fault))) same has within is stop
job_stops limit old between jobs input output text steps job before middle now TooLong same le has within is stop = only_over limit old between jobs input output text steps job same has within is stop
job_stops limit old between jobs input output text steps job before middle now TooMuch same le has within is stop =
    told_comes limit old between jobs input output text steps job (Refuses (status_of TooMuch) (refusal_line TooMuch)) same has within is stop
job_stops limit old between jobs input output text steps job before middle now (Limit passed) same le has within is stop =
    told_comes limit old between jobs input output text steps job (Refuses (status_of (Limit passed)) (refusal_line (Limit passed))) same has within is stop
job_stops limit old between jobs input output text steps job before middle now (Read name) same le has within is stop =
    (rose_since before middle now le stop.0, only_reached limit old between jobs input output text name.now steps job same has within is stop.1)
job_stops limit old between jobs input output text steps job before middle now (ReadOf name) same le has within is stop =
    (rose_since before middle now le stop.0, only_reached limit old between jobs input output text name steps job same has within is stop.1)
job_stops limit old between jobs input output text steps job before middle now (Write name) same le has within is stop = absurd stop
job_stops limit old between jobs input output text steps job before middle now Memory same le has within is stop = tt
job_stops limit old between jobs input output text steps job before middle now (Resolution kind place) same le has within is stop =
    told_comes limit old between jobs input output text steps job (Refuses (status_of (Resolution kind place)) (refusal_line (Resolution kind place))) same has within is stop
job_stops limit old between jobs input output text steps job before middle now (Text at kind) same le has within is stop =
    told_comes limit old between jobs input output text steps job (Refuses (status_of (Text at kind)) (refusal_line (Text at kind))) same has within is stop
job_stops limit old between jobs input output text steps job before middle now (Jobs number) same le has within is stop =
    told_comes limit old between jobs input output text steps job (Refuses (status_of (Jobs number)) (refusal_line (Jobs number))) same has within is stop
job_stops limit old between jobs input output text steps job before middle now (Image offset) same le has within is stop =
    told_comes limit old between jobs input output text steps job (Refuses (status_of (Image offset)) (refusal_line (Image offset))) same has within is stop

-- ---- from what the steps answer

pub bad_line : (text : List ℕ) (number : ℕ) (e : JobError) → e ≡ job_error.Fault number → (jobs_in text ≡ Err e) ⊎ (e ≡ job_error.NoMemory)
    → only_job (jobs_in text) ≡ Err (Refuses 10 (jobs_line number))
bad_line text number e same (inl is) = ap only_job (is ∙ ap Err same)
bad_line text number e same (inr wrong) = absurd (grind (arith, same, wrong))

pub only_is : (text : List ℕ) (jobs : AllJobs) (r : Result Job Judgement) → jobs_in text ≡ Ok jobs → only_of jobs.links ≡ r → only_job (jobs_in text) ≡ r
only_is text jobs r is only = ap only_job is ∙ only

pub only_stands : (limit : ℕ) (old between : Option Contents) (jobs input text : List ℕ) (steps : ℕ) (job : Job) (result : Result (Vec ℕ Global × Vec ℕ Global) Refusal) → between ≡ old
    → IfSome old (λ held. held jobs ≡ Some text) → length text ≤ limit → only_job (jobs_in text) ≡ Ok job
    → IfOk result (λ r. (output : List ℕ) → IfSome between (λ held. ComesTo limit held (job_reads held input job) (JudgesJob output steps job) (Gives ((output, r.1.items) ∷ []) r.0.items)))
    → IfOk result (λ r. (output : List ℕ) → IfSome old (λ held.
    ComesTo limit held (reads_of held (Interp jobs steps input output)) (Judges (Interp jobs steps input output)) (Gives ((output, r.1.items) ∷ []) r.0.items)))
only_stands limit old between jobs input text steps job (Ok r) same has within is comes =
    λ output. told_comes limit old between jobs input output text steps job (Gives ((output, r.1.items) ∷ []) r.0.items) same has within is (comes output)
only_stands limit old between jobs input text steps job (Err e) same has within is comes = tt

pub only_stops : (limit : ℕ) (old between : Option Contents) (jobs input text : List ℕ) (steps : ℕ) (job : Job) (before middle now : ℕ) (result : Result (Vec ℕ Global × Vec ℕ Global) Refusal)
    → between ≡ old → before ≤ middle → IfSome old (λ held. held jobs ≡ Some text) → length text ≤ limit → only_job (jobs_in text) ≡ Ok job
    → IfErr result (λ refusal. (output : List ℕ) → IsStop limit (λ held. job_reads held input job) (JudgesJob output steps job) between middle now refusal)
    → IfErr result (λ refusal. (output : List ℕ) → IsStop limit (λ held. reads_of held (Interp jobs steps input output)) (Judges (Interp jobs steps input output)) old before now refusal)
only_stops limit old between jobs input text steps job before middle now (Ok r) same le has within is stops = tt
only_stops limit old between jobs input text steps job before middle now (Err refusal) same le has within is stops =
    λ output. job_stops limit old between jobs input output text steps job before middle now refusal same le has within is (stops output)

-- ---- what becomes of a command that is refused before its first write

attempt_of : (limit : ℕ) (command : Spoken) (old new : Option Contents) (s : ℕ) → IsTrue (is_status s) → s ≢ 2
    → ForSome old (λ held. IsAbsent limit held (reads_of held command) → (s ≡ 5) ⊎ (s ≡ 7)) → new ≡ old → Attempt limit (Some command) old new s
attempt_of limit command old new s status not_2 absent same = record {
  answers = status;
  words = record { only = λ is. absurd (not_2 is); always = λ none. grind (arith, none) };
  absent = absent;
  early = λ _. same;
  memory = λ _. same;
}

attempt_at : (limit : ℕ) (command : Spoken) (old new : Option Contents) (s : ℕ) (x : List ℕ) → IsTrue (is_status s) → s ≢ 2 → new ≡ old
    → IfSome old (λ held. ComesTo limit held (reads_of held command) (Judges command) (Refuses s x)) → Attempt limit (Some command) old new s
attempt_at limit command old new s x status not_2 same comes =
    let at = λ (held : Contents) (told : old ≡ Some held). told_at (λ held. ComesTo limit held (reads_of held command) (Judges command) (Refuses s x)) old held comes told in
    attempt_of limit command old new s status not_2
    (λ held told absent. absurd (held_not_absent limit held (reads_of held command) (at held told).contents (at held told).read absent)) same

pub stopped_attempt : (limit : ℕ) (command : Spoken) (old new : Option Contents) (before now : ℕ) (refusal : Refusal) → new ≡ old
    → IsStop limit (λ held. reads_of held command) (Judges command) old before now refusal → Attempt limit (Some command) old new (status_of refusal)
stopped_attempt limit command old new before now NoCommand same stop = absurd stop
stopped_attempt limit command old new before now (Object number fault) same stop = attempt_at limit command old new (status_of (Object number fault)) (refusal_line (Object number fault)) refl (λ is. grind (arith, is)) same stop
stopped_attempt limit command old new before now TooLong same stop =
    attempt_of limit command old new 4 refl (λ is. grind (arith, is))
    (λ held told absent. absurd (over_not_absent limit held (reads_of held command)
    (told_at (λ held. IsOverLimit limit held (reads_of held command)) old held stop told) absent)) same
stopped_attempt limit command old new before now TooMuch same stop = attempt_at limit command old new (status_of TooMuch) (refusal_line TooMuch) refl (λ is. grind (arith, is)) same stop
stopped_attempt limit command old new before now (Limit passed) same stop = attempt_at limit command old new (status_of (Limit passed)) (refusal_line (Limit passed)) refl (λ is. grind (arith, is)) same stop
stopped_attempt limit command old new before now (Read name) same stop = attempt_of limit command old new 5 refl (λ is. grind (arith, is)) (λ held told absent. inl refl) same
stopped_attempt limit command old new before now (ReadOf name) same stop = attempt_of limit command old new 5 refl (λ is. grind (arith, is)) (λ held told absent. inl refl) same
stopped_attempt limit command old new before now (Write name) same stop = absurd stop
stopped_attempt limit command old new before now Memory same stop = attempt_of limit command old new 7 refl (λ is. grind (arith, is)) (λ held told absent. inr refl) same
stopped_attempt limit command old new before now (Resolution kind place) same stop = attempt_at limit command old new (status_of (Resolution kind place)) (refusal_line (Resolution kind place)) refl (λ is. grind (arith, is)) same stop
stopped_attempt limit command old new before now (Text at kind) same stop = attempt_at limit command old new (status_of (Text at kind)) (refusal_line (Text at kind)) refl (λ is. grind (arith, is)) same stop
stopped_attempt limit command old new before now (Jobs number) same stop = attempt_at limit command old new (status_of (Jobs number)) (refusal_line (Jobs number)) refl (λ is. grind (arith, is)) same stop
stopped_attempt limit command old new before now (Image offset) same stop = attempt_at limit command old new (status_of (Image offset)) (refusal_line (Image offset)) refl (λ is. grind (arith, is)) same stop

counted_at : (s before now : ℕ) → s ≢ 5 → s ≢ 6 → lines_of s ≡ 0 → before ≤ now → Counted before now s
counted_at s before now not_5 not_6 none le = record {
  read = λ is. absurd (not_5 is);
  write = λ is. absurd (not_6 is);
  counting = subst (λ (n : ℕ). RoseBy n before now) (sym none) (omega (arith, le));
}

counted_read : (before now : ℕ) → Rose before now → Counted before now 5
counted_read before now rose = record { read = λ _. rose; write = λ is. grind (arith, is); counting = rose }

pub stopped_counted : (limit : ℕ) (command : Spoken) (old : Option Contents) (before now : ℕ) (refusal : Refusal) → before ≤ now
    → IsStop limit (λ held. reads_of held command) (Judges command) old before now refusal → Counted before now (status_of refusal)
stopped_counted limit command old before now NoCommand le stop = absurd stop
stopped_counted limit command old before now (Object number fault) le stop = counted_at (status_of (Object number fault)) before now (λ is. grind (arith, is)) (λ is. grind (arith, is)) refl le
stopped_counted limit command old before now TooLong le stop = counted_at (status_of TooLong) before now (λ is. grind (arith, is)) (λ is. grind (arith, is)) refl le
stopped_counted limit command old before now TooMuch le stop = counted_at (status_of TooMuch) before now (λ is. grind (arith, is)) (λ is. grind (arith, is)) refl le
stopped_counted limit command old before now (Limit passed) le stop = counted_at (status_of (Limit passed)) before now (λ is. grind (arith, is)) (λ is. grind (arith, is)) refl le
stopped_counted limit command old before now (Read name) le stop = counted_read before now stop.0
stopped_counted limit command old before now (ReadOf name) le stop = counted_read before now stop.0
stopped_counted limit command old before now (Write name) le stop = absurd stop
stopped_counted limit command old before now Memory le stop = counted_at (status_of Memory) before now (λ is. grind (arith, is)) (λ is. grind (arith, is)) refl le
stopped_counted limit command old before now (Resolution kind place) le stop = counted_at (status_of (Resolution kind place)) before now (λ is. grind (arith, is)) (λ is. grind (arith, is)) refl le
stopped_counted limit command old before now (Text at kind) le stop = counted_at (status_of (Text at kind)) before now (λ is. grind (arith, is)) (λ is. grind (arith, is)) refl le
stopped_counted limit command old before now (Jobs number) le stop = counted_at (status_of (Jobs number)) before now (λ is. grind (arith, is)) (λ is. grind (arith, is)) refl le
stopped_counted limit command old before now (Image offset) le stop = counted_at (status_of (Image offset)) before now (λ is. grind (arith, is)) (λ is. grind (arith, is)) refl le

pub stopped_lined : (limit : ℕ) (command : Spoken) (old : Option Contents) (before now : ℕ) (refusal : Refusal)
    → IsStop limit (λ held. reads_of held command) (Judges command) old before now refusal → Lined limit (Some command) old (status_of refusal) (refusal_line refusal)
stopped_lined limit command old before now NoCommand stop = absurd stop
stopped_lined limit command old before now (Object number fault) stop = record {
  quiet = λ is. grind (arith, is);
  silent = λ is. grind (arith, is);
  words = λ is. grind (arith, is);
  object = λ _. (number, fault, refl);
  over = λ is. grind (arith, is);
  read = λ is. grind (arith, is);
  write = λ is. grind (arith, is);
  memory = λ is. grind (arith, is);
  resolution = λ is. grind (arith, is);
  spelled = λ is. grind (arith, is);
  jobs = λ is. grind (arith, is);
  image = λ is. grind (arith, is);
}
stopped_lined limit command old before now TooLong stop = record {
  quiet = λ is. grind (arith, is);
  silent = λ is. grind (arith, is);
  words = λ is. grind (arith, is);
  object = λ is. grind (arith, is);
  over = λ _. inl refl;
  read = λ is. grind (arith, is);
  write = λ is. grind (arith, is);
  memory = λ is. grind (arith, is);
  resolution = λ is. grind (arith, is);
  spelled = λ is. grind (arith, is);
  jobs = λ is. grind (arith, is);
  image = λ is. grind (arith, is);
}
stopped_lined limit command old before now TooMuch stop = record {
  quiet = λ is. grind (arith, is);
  silent = λ is. grind (arith, is);
  words = λ is. grind (arith, is);
  object = λ is. grind (arith, is);
  over = λ _. inr (inl refl);
  read = λ is. grind (arith, is);
  write = λ is. grind (arith, is);
  memory = λ is. grind (arith, is);
  resolution = λ is. grind (arith, is);
  spelled = λ is. grind (arith, is);
  jobs = λ is. grind (arith, is);
  image = λ is. grind (arith, is);
}
stopped_lined limit command old before now (Limit passed) stop = record {
  quiet = λ is. grind (arith, is);
  silent = λ is. grind (arith, is);
  words = λ is. grind (arith, is);
  object = λ is. grind (arith, is);
  over = λ _. inr (inr (passed, refl));
  read = λ is. grind (arith, is);
  write = λ is. grind (arith, is);
  memory = λ is. grind (arith, is);
  resolution = λ is. grind (arith, is);
  spelled = λ is. grind (arith, is);
  jobs = λ is. grind (arith, is);
  image = λ is. grind (arith, is);
}
stopped_lined limit command old before now (Read name) stop = record {
  quiet = λ is. grind (arith, is);
  silent = λ is. grind (arith, is);
  words = λ is. grind (arith, is);
  object = λ is. grind (arith, is);
  over = λ is. grind (arith, is);
  read = λ _. (name.now, stop.1, refl);
  write = λ is. grind (arith, is);
  memory = λ is. grind (arith, is);
  resolution = λ is. grind (arith, is);
  spelled = λ is. grind (arith, is);
  jobs = λ is. grind (arith, is);
  image = λ is. grind (arith, is);
}
stopped_lined limit command old before now (ReadOf name) stop = record {
  quiet = λ is. grind (arith, is);
  silent = λ is. grind (arith, is);
  words = λ is. grind (arith, is);
  object = λ is. grind (arith, is);
  over = λ is. grind (arith, is);
  read = λ _. (name, stop.1, refl);
  write = λ is. grind (arith, is);
  memory = λ is. grind (arith, is);
  resolution = λ is. grind (arith, is);
  spelled = λ is. grind (arith, is);
  jobs = λ is. grind (arith, is);
  image = λ is. grind (arith, is);
}
stopped_lined limit command old before now (Write name) stop = absurd stop
stopped_lined limit command old before now Memory stop = record {
  quiet = λ is. grind (arith, is);
  silent = λ is. grind (arith, is);
  words = λ is. grind (arith, is);
  object = λ is. grind (arith, is);
  over = λ is. grind (arith, is);
  read = λ is. grind (arith, is);
  write = λ is. grind (arith, is);
  memory = λ _. refl;
  resolution = λ is. grind (arith, is);
  spelled = λ is. grind (arith, is);
  jobs = λ is. grind (arith, is);
  image = λ is. grind (arith, is);
}
stopped_lined limit command old before now (Resolution kind place) stop = record {
  quiet = λ is. grind (arith, is);
  silent = λ is. grind (arith, is);
  words = λ is. grind (arith, is);
  object = λ is. grind (arith, is);
  over = λ is. grind (arith, is);
  read = λ is. grind (arith, is);
  write = λ is. grind (arith, is);
  memory = λ is. grind (arith, is);
  resolution = λ _. (kind, place, refl);
  spelled = λ is. grind (arith, is);
  jobs = λ is. grind (arith, is);
  image = λ is. grind (arith, is);
}
stopped_lined limit command old before now (Text at kind) stop = record {
  quiet = λ is. grind (arith, is);
  silent = λ is. grind (arith, is);
  words = λ is. grind (arith, is);
  object = λ is. grind (arith, is);
  over = λ is. grind (arith, is);
  read = λ is. grind (arith, is);
  write = λ is. grind (arith, is);
  memory = λ is. grind (arith, is);
  resolution = λ is. grind (arith, is);
  spelled = λ _. (at, kind, refl);
  jobs = λ is. grind (arith, is);
  image = λ is. grind (arith, is);
}
stopped_lined limit command old before now (Jobs number) stop = record {
  quiet = λ is. grind (arith, is);
  silent = λ is. grind (arith, is);
  words = λ is. grind (arith, is);
  object = λ is. grind (arith, is);
  over = λ is. grind (arith, is);
  read = λ is. grind (arith, is);
  write = λ is. grind (arith, is);
  memory = λ is. grind (arith, is);
  resolution = λ is. grind (arith, is);
  spelled = λ is. grind (arith, is);
  jobs = λ _. (number, refl);
  image = λ is. grind (arith, is);
}
stopped_lined limit command old before now (Image offset) stop = record {
  quiet = λ is. grind (arith, is);
  silent = λ is. grind (arith, is);
  words = λ is. grind (arith, is);
  object = λ is. grind (arith, is);
  over = λ is. grind (arith, is);
  read = λ is. grind (arith, is);
  write = λ is. grind (arith, is);
  memory = λ is. grind (arith, is);
  resolution = λ is. grind (arith, is);
  spelled = λ is. grind (arith, is);
  jobs = λ is. grind (arith, is);
  image = λ _. (offset, refl);
}

judged_stop : (limit : ℕ) (command : Spoken) (old new : Option Contents) (before now s : ℕ) (x : List ℕ) → s ≢ 0 → s ≢ 6
    → IfSome old (λ held. ComesTo limit held (reads_of held command) (Judges command) (Refuses s x)) → Judged limit (Some command) old new before now s x
judged_stop limit command old new before now s x not_0 not_6 comes =
    refused_by limit command old new before now s x not_0 not_6
    (told_map (λ held. ComesTo limit held (reads_of held command) (Judges command) (Refuses s x)) (λ held. IsRefused limit command held s x) old
    (λ held h. record { contents = h.contents; read = h.read; judged = h.judged }) comes)

pub stopped_judged : (limit : ℕ) (command : Spoken) (old new : Option Contents) (before now : ℕ) (refusal : Refusal)
    → IsStop limit (λ held. reads_of held command) (Judges command) old before now refusal
    → Judged limit (Some command) old new before now (status_of refusal) (refusal_line refusal)
stopped_judged limit command old new before now NoCommand stop = absurd stop
stopped_judged limit command old new before now (Object number fault) stop = judged_stop limit command old new before now (status_of (Object number fault)) (refusal_line (Object number fault)) (λ is. grind (arith, is)) (λ is. grind (arith, is)) stop
stopped_judged limit command old new before now TooLong stop = too_long limit command old new before now stop
stopped_judged limit command old new before now TooMuch stop = judged_stop limit command old new before now (status_of TooMuch) (refusal_line TooMuch) (λ is. grind (arith, is)) (λ is. grind (arith, is)) stop
stopped_judged limit command old new before now (Limit passed) stop = judged_stop limit command old new before now (status_of (Limit passed)) (refusal_line (Limit passed)) (λ is. grind (arith, is)) (λ is. grind (arith, is)) stop
stopped_judged limit command old new before now (Read name) stop = failed limit command old new before now (refusal_line (Read name)) stop.0
stopped_judged limit command old new before now (ReadOf name) stop = failed limit command old new before now (refusal_line (ReadOf name)) stop.0
stopped_judged limit command old new before now (Write name) stop = absurd stop
stopped_judged limit command old new before now Memory stop = lacked limit command old new before now (refusal_line Memory)
stopped_judged limit command old new before now (Resolution kind place) stop = judged_stop limit command old new before now (status_of (Resolution kind place)) (refusal_line (Resolution kind place)) (λ is. grind (arith, is)) (λ is. grind (arith, is)) stop
stopped_judged limit command old new before now (Text at kind) stop = judged_stop limit command old new before now (status_of (Text at kind)) (refusal_line (Text at kind)) (λ is. grind (arith, is)) (λ is. grind (arith, is)) stop
stopped_judged limit command old new before now (Jobs number) stop = judged_stop limit command old new before now (status_of (Jobs number)) (refusal_line (Jobs number)) (λ is. grind (arith, is)) (λ is. grind (arith, is)) stop
stopped_judged limit command old new before now (Image offset) stop = judged_stop limit command old new before now (status_of (Image offset)) (refusal_line (Image offset)) (λ is. grind (arith, is)) (λ is. grind (arith, is)) stop

-- ---- a command that comes to what is written and printed

pub gives_of : (limit : ℕ) (old : Option Contents) (command : Spoken) (output written text : List ℕ)
    → IfSome old (λ held. ComesTo limit held (reads_of held command) (Judges command) (Gives ((output, written) ∷ []) text))
    → IfSome old (λ held. IsJudged limit command held ((output, written) ∷ []) text)
gives_of limit old command output written text =
    told_map (λ held. ComesTo limit held (reads_of held command) (Judges command) (Gives ((output, written) ∷ []) text))
    (λ held. IsJudged limit command held ((output, written) ∷ []) text) old (λ held h. record { contents = h.contents; read = h.read; judged = h.judged })

-- its files were all read
pub read_attempt : (limit : ℕ) (command : Spoken) (old new : Option Contents) (s : ℕ) (output written text : List ℕ) → IsTrue (is_status s) → s ≢ 2 → s ≢ 7
    → (IsTrue (is_early s) → new ≡ old) → IfSome old (λ held. ComesTo limit held (reads_of held command) (Judges command) (Gives ((output, written) ∷ []) text))
    → Attempt limit (Some command) old new s
read_attempt limit command old new s output written text status not_2 not_7 early comes =
    let at = λ (held : Contents) (told : old ≡ Some held).
    told_at (λ held. ComesTo limit held (reads_of held command) (Judges command) (Gives ((output, written) ∷ []) text)) old held comes told in
    record {
      answers = status;
      words = record { only = λ is. absurd (not_2 is); always = λ none. grind (arith, none) };
      absent = λ held told absent. absurd (held_not_absent limit held (reads_of held command) (at held told).contents (at held told).read absent);
      early = early;
      memory = λ is. absurd (not_7 is);
    }

pub run_done : (limit : ℕ) (command : Spoken) (old between new : Option Contents) (before now : ℕ) (output written text : List ℕ) → between ≡ old
    → IfSome old (λ held. ComesTo limit held (reads_of held command) (Judges command) (Gives ((output, written) ∷ []) text))
    → WhereTold between new (Writes output written) → ((held then : Contents) → Faithful (Some command) held then) → Judged limit (Some command) old new before now 0 text
run_done limit command old between new before now output written text same comes writes follows =
    let then = subst (λ (o : Option Contents). WhereTold o new (Writes output written)) same writes in
    done_by limit command old new before now ((output, written) ∷ []) text (gives_of limit old command output written text comes) (one_written old new output written then)
    (told_both (Writes output written) (Faithful (Some command)) old new (λ held now w. follows held now) then)

pub run_cut_short : (limit : ℕ) (command : Spoken) (old between new : Option Contents) (before now : ℕ) (output written text line : List ℕ) → between ≡ old
    → IfSome old (λ held. ComesTo limit held (reads_of held command) (Judges command) (Gives ((output, written) ∷ []) text))
    → WhereTold between new (WritesPrefix output written) → Rose before now → Judged limit (Some command) old new before now 6 line
run_cut_short limit command old between new before now output written text line same comes writes rose =
    cut_short_by limit command old new before now ((output, written) ∷ []) text line (gives_of limit old command output written text comes)
    (one_cut_short old new output written (subst (λ (o : Option Contents). WhereTold o new (WritesPrefix output written)) same writes)) rose

-- ---- the line of a program that was run

pub standing_is_some : (outcome : Standing) → standing_line outcome ≢ []
standing_is_some stands.Running = line_is_some (codes "running")
standing_is_some (stands.Ended status) = line_is_some (codes "ended " ++ decimal status)
standing_is_some (stands.Undefined function statement) = line_is_some ((codes "undefined " ++ decimal function) ++ spaced (decimal statement))
