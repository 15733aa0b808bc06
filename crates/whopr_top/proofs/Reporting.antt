-- The report of jobs and its statuses, and which clauses are of which command.
use Rattle.std.proofs.Common.{◌≡◌, ◌≢◌, ℕ, zero, suc, ◌+◌, ◌<◌, ◌++◌, ◌⊎◌, inl, inr, List, [], ◌∷◌, Option, Some, None, refl, sym, subst, ◌∙◌, arith, length, drop, get_or}
use Rattle.std.specs.Prelude.{IsTrue}
use Rattle.std.proofs.lemmas.List.{at_drop_more}
use Rattle.whopr_words.specs.Commands.{Spoken, Cc, Lgen, Show, Interp, Run, Resolve, Link, Batch, Replay, Gen}
use Rattle.whopr_words.specs.declared.job_file.Job.{Job}
use Rattle.job_links.specs.declared.line.JobLine.{JobLine}
use Rattle.job_links.specs.declared.line.JobLine.TheVariants.{Done, Object, TooLong, Limit, Read, Write, Memory, Unresolved}
use Rattle.job_links.specs.declared.line.JobsRefusal.{JobsRefusal}
use Rattle.job_links.specs.declared.line.JobsRefusal.TheVariants as refusal
use Rattle.job_links.specs.Statuses.{first_status}
use Rattle.whopr_top.specs.Answers.{is_status, after_fault}
use Rattle.whopr_top.specs.Built.{IsWhole, IfLink}
use Rattle.whopr_top.specs.Links.{job_line, report_of, jobs_status}

-- ---- the report, from a place on

pub report_more : (jobs : List Job) (lines : List JobLine) (i : ℕ) (job : Job) (said : JobLine) → i < length jobs → i < length lines → job ≡ get_or jobs i job → said ≡ get_or lines i said
    → report_of (drop i jobs) (drop i lines) ≡ job_line job said ++ report_of (drop (i + 1) jobs) (drop (i + 1) lines)
report_more jobs lines i job said lt below is at =
    at_drop_more (λ rest. report_of rest (drop i lines)) jobs i job lt
    ∙ at_drop_more (λ rest. report_of (get_or jobs i job ∷ drop (i + 1) jobs) rest) lines i said below
    ∙ rw (← is, ← at) refl

-- ---- statuses

-- a status that there is, and that is not of words that are no command
abbrev pub IsSpoken : ℕ → Type 0
IsSpoken status = IsTrue (is_status status) × (status ≢ 2)

pub first_spoken : (lines : List JobLine) → IsSpoken (first_status lines)
first_spoken [] = (refl, λ is. grind (arith, is))
first_spoken (Done bytes ∷ lines) = first_spoken lines
first_spoken (Object number fault ∷ lines) = (refl, λ is. grind (arith, is))
first_spoken (TooLong ∷ lines) = (refl, λ is. grind (arith, is))
first_spoken (Limit passed ∷ lines) = (refl, λ is. grind (arith, is))
first_spoken (Read place ∷ lines) = (refl, λ is. grind (arith, is))
first_spoken (Write ∷ lines) = (refl, λ is. grind (arith, is))
first_spoken (Memory ∷ lines) = (refl, λ is. grind (arith, is))
first_spoken (Unresolved fault ∷ lines) = (refl, λ is. grind (arith, is))

pub refusal_spoken : (refused : JobsRefusal) → IsSpoken (jobs_status refused)
refusal_spoken refusal.Read = (refl, λ is. grind (arith, is))
refusal_spoken refusal.TooLong = (refl, λ is. grind (arith, is))
refusal_spoken (refusal.Jobs number) = (refl, λ is. grind (arith, is))
refusal_spoken refusal.BatchBytes = (refl, λ is. grind (arith, is))
refusal_spoken refusal.Memory = (refl, λ is. grind (arith, is))

fault_spoken : (status : ℕ) → IsSpoken status → IsSpoken (after_fault status)
fault_spoken zero h = (refl, λ is. grind (arith, is))
fault_spoken (suc n) h =
    let same : after_fault (suc n) ≡ suc n = grind arith in
    subst IsSpoken (sym same) h

-- what is answered where a text was to be put for a status
pub put_spoken : (status result : ℕ) → IsSpoken status → (result ≡ status) ⊎ (result ≡ after_fault status) ⊎ (result ≡ 7) → IsSpoken result
put_spoken status result h (inl is) = subst IsSpoken (sym is) h
put_spoken status result h (inr (inl is)) = subst IsSpoken (sym is) (fault_spoken status h)
put_spoken status result h (inr (inr is)) = subst IsSpoken (sym is) (refl, λ same. grind (arith, same))

pub told_spoken : (status result : ℕ) → IsSpoken status → (result ≡ status) ⊎ (result ≡ 7) → IsSpoken result
told_spoken status result h (inl is) = put_spoken status result h (inl is)
told_spoken status result h (inr is) = put_spoken status result h (inr (inr is))

-- ---- commands

pub not_whole : {A : Type 0} (command : Option Spoken) (jobs : List ℕ) → command ≡ Some (Link jobs) → IsWhole command → A
not_whole command jobs is whole = absurd (subst IsWhole is whole)

pub no_link : (command : Option Spoken) (P : List ℕ → Type 0) → IsWhole command → IfLink command P
no_link None P whole = tt
no_link (Some (Cc input output)) P whole = tt
no_link (Some (Lgen input output)) P whole = tt
no_link (Some (Show object)) P whole = tt
no_link (Some (Interp jobs steps input output)) P whole = tt
no_link (Some (Run image steps input output)) P whole = tt
no_link (Some (Resolve output objects)) P whole = tt
no_link (Some (Link jobs)) P whole = absurd whole
no_link (Some (Batch jobs trace)) P whole = tt
no_link (Some (Replay jobs schedule trace)) P whole = tt
no_link (Some (Gen seed count prefix)) P whole = tt

pub a_link : (command : Option Spoken) (jobs : List ℕ) (P : List ℕ → Type 0) → command ≡ Some (Link jobs) → P jobs → IfLink command P
a_link command jobs P is h = subst (λ c. IfLink c P) (sym is) h
