-- Files that are read one after the other, up to the first that can't be.
use Rattle.std.proofs.Common.{◌≡◌, ℕ, suc, ◌+◌, ◌<◌, ◌≤◌, List, [], ◌∷◌, ◌++◌, Option, Some, None, Result, Ok, Err, sym, ◌∙◌, ap, refl, arith, length, take, drop, get_or, subst}
use Rattle.std.specs.Prelude.{All}
use Rattle.std.proofs.lemmas.List.{append_assoc, append-nil, at_drop_more, drop_all, take-append-le, length-append}
use Rattle.std.proofs.lemmas.List.Elements.{All-more}
use Rattle.std.proofs.Math.Seq.{take-append_seam}
use Rattle.outer_files.specs.Outside.{Contents}
use Rattle.whopr_words.specs.declared.job_file.Job.{Job}
use Rattle.job_links.specs.declared.reading.ReadsFault.{ReadsFault}
use Rattle.job_links.specs.declared.reading.ReadsFault.TheVariants.{Failed, TooLong, NoMemory}
use Rattle.job_links.specs.Reads.{IsWithin, IsReached, file_by, contents_with, contents_from, GivesFile, GivesFiles, size_by, size_of, reads_of}

abbrev pub Found : Type 0
Found = Result (List (List ℕ)) ReadsFault

-- the files that were read before those that are left
abbrev pub after_these : List (List ℕ) → Found → Found
after_these done (Ok more) = Ok (done ++ more)
after_these done (Err fault) = Err fault

-- so many files were read, with these contents
pub record ReadSoFar (limit : ℕ) (held : Contents) (names : List (List ℕ)) (place : ℕ) (contents : List (List ℕ)) : Type 0 where
  pub value : after_these contents (contents_from place limit held (drop place names)) ≡ contents_from 0 limit held names
  pub before : All (λ name. IsWithin limit (held name)) (take place names)

-- ---- one file

pub file_within : (place limit : ℕ) (file : Option (List ℕ)) (bytes : List ℕ) → file_by place limit file ≡ Ok bytes → IsWithin limit file
file_within place limit None bytes is = grind arith
file_within place limit (Some held) bytes is = grind arith

pub size_with : (limit : ℕ) (file : Option (List ℕ)) (more : ℕ) → IsWithin limit file → size_by limit file more ≡ size_by limit file 0 + more
size_with limit None more within = absurd within
size_with limit (Some held) more within = grind (arith, within)

pub size_least : (limit : ℕ) (file : Option (List ℕ)) (more : ℕ) → size_by limit file 0 ≤ size_by limit file more
size_least limit None more = grind arith
size_least limit (Some held) more = grind arith

pub size_grows : (limit : ℕ) (file : Option (List ℕ)) (less more : ℕ) → less ≤ more → size_by limit file less ≤ size_by limit file more
size_grows limit None less more le = grind arith
size_grows limit (Some held) less more le = grind (arith, le)

-- ---- the files so far

next_of : (limit : ℕ) (held : Contents) (names : List (List ℕ)) (n : ℕ) (name : List ℕ) → n < length names → name ≡ get_or names n name
    → contents_from n limit held (drop n names) ≡ contents_with (file_by n limit (held name)) (contents_from (n + 1) limit held (drop (n + 1) names))
next_of limit held names n name lt is = at_drop_more (λ rest. contents_from n limit held rest) names n name lt ∙ rw (← is) refl

one_more : (done : List (List ℕ)) (bytes : List ℕ) (more : Found) → after_these done (contents_with (Ok bytes) more) ≡ after_these (done ++ bytes ∷ []) more
one_more done bytes (Ok more) = ap Ok (sym (append_assoc done (bytes ∷ []) more))
one_more done bytes (Err fault) = refl

nothing_before : (found : Found) → after_these [] found ≡ found
nothing_before (Ok more) = refl
nothing_before (Err fault) = refl

pub none_so_far : (limit : ℕ) (held : Contents) (names : List (List ℕ)) → ReadSoFar limit held names 0 []
none_so_far limit held names = record { value = nothing_before (contents_from 0 limit held names); before = grind arith }

pub more_so_far : (limit : ℕ) (held : Contents) (names done : List (List ℕ)) (n : ℕ) (name bytes : List ℕ) → n < length names → name ≡ get_or names n name
    → file_by n limit (held name) ≡ Ok bytes → ReadSoFar limit held names n done → ReadSoFar limit held names (n + 1) (done ++ bytes ∷ [])
more_so_far limit held names done n name bytes lt is read h =
    let rest = contents_from (n + 1) limit held (drop (n + 1) names) in
    record {
      value = sym (one_more done bytes rest) ∙ ap (λ (r : Result (List ℕ) ReadsFault). after_these done (contents_with r rest)) (sym read)
          ∙ ap (after_these done) (sym (next_of limit held names n name lt is)) ∙ h.value;
      before = All-more (λ name. IsWithin limit (held name)) names n name lt h.before
          (subst (λ (other : List ℕ). IsWithin limit (held other)) is (file_within n limit (held name) bytes read));
    }

pub long_after : (limit : ℕ) (held : Contents) (names done : List (List ℕ)) (n : ℕ) (name : List ℕ) → n < length names → name ≡ get_or names n name
    → file_by n limit (held name) ≡ Err TooLong → ReadSoFar limit held names n done → contents_from 0 limit held names ≡ Err TooLong
long_after limit held names done n name lt is read h =
    sym h.value ∙ ap (after_these done) (next_of limit held names n name lt is)
    ∙ ap (λ (r : Result (List ℕ) ReadsFault). after_these done (contents_with r (contents_from (n + 1) limit held (drop (n + 1) names)))) read

pub all_so_far : (limit : ℕ) (held : Contents) (names done : List (List ℕ)) (n : ℕ) → length names ≤ n → ReadSoFar limit held names n done
    → contents_from 0 limit held names ≡ Ok done
all_so_far limit held names done n past h =
    sym h.value ∙ ap (λ (rest : List (List ℕ)). after_these done (contents_from n limit held rest)) (drop_all n names past) ∙ ap Ok (append-nil done)

-- ---- the sizes

pub size_next : (limit : ℕ) (held : Contents) (names : List (List ℕ)) (n : ℕ) (name : List ℕ) → n < length names → name ≡ get_or names n name
    → size_of limit held (drop n names) ≡ size_by limit (held name) (size_of limit held (drop (n + 1) names))
size_next limit held names n name lt is = at_drop_more (λ rest. size_of limit held rest) names n name lt ∙ rw (← is) refl

pub size_more : (limit : ℕ) (held : Contents) (names : List (List ℕ)) (n : ℕ) (name bytes : List ℕ) (whole before now : ℕ) → n < length names → name ≡ get_or names n name
    → file_by n limit (held name) ≡ Ok bytes → now ≤ before + size_by limit (held name) 0 → before + size_of limit held (drop n names) ≤ whole
    → now + size_of limit held (drop (n + 1) names) ≤ whole
size_more limit held names n name bytes whole before now lt is read grown h =
    let rest = size_of limit held (drop (n + 1) names) in
    omega (arith, size_next limit held names n name lt is, size_with limit (held name) rest (file_within n limit (held name) bytes read), grown, h)

pub size_last : (limit : ℕ) (held : Contents) (names : List (List ℕ)) (n : ℕ) (name : List ℕ) (whole before now : ℕ) → n < length names → name ≡ get_or names n name
    → now ≤ before + size_by limit (held name) 0 → before + size_of limit held (drop n names) ≤ whole → now ≤ whole
size_last limit held names n name whole before now lt is grown h =
    let rest = size_of limit held (drop (n + 1) names) in
    omega (arith, size_next limit held names n name lt is, size_least limit (held name) rest, grown, h)

-- ---- the files of a job

within_first : (place limit : ℕ) (held : Contents) (name : List ℕ) (names contents : List (List ℕ)) (first : Result (List ℕ) ReadsFault) (more : Found)
    → file_by place limit (held name) ≡ first → ((rest : List (List ℕ)) → more ≡ Ok rest → All (λ other. IsWithin limit (held other)) names)
    → contents_with first more ≡ Ok contents → All (λ other. IsWithin limit (held other)) (name ∷ names)
within_first place limit held name names contents (Err fault) more a step read = grind arith
within_first place limit held name names contents (Ok bytes) (Err fault) a step read = grind arith
within_first place limit held name names contents (Ok bytes) (Ok rest) a step read =
    let one = file_within place limit (held name) bytes a in
    let others = step rest refl in
    grind (arith, one, others)

pub all_within : (place limit : ℕ) (held : Contents) (names contents : List (List ℕ)) → contents_from place limit held names ≡ Ok contents
    → All (λ name. IsWithin limit (held name)) names
all_within place limit held [] contents read = grind arith
all_within place limit held (name ∷ names) contents read =
    within_first place limit held name names contents (file_by place limit (held name)) (contents_from (place + 1) limit held names) refl
    (λ rest b. all_within (place + 1) limit held names rest b) read

pub reached_in_front : (limit : ℕ) (held : Contents) (names more : List (List ℕ)) (place : ℕ) → IsReached limit held names place → IsReached limit held (names ++ more) place
reached_in_front limit held names more place h =
    record {
      one = omega (arith, length-append names more, h.one);
      before = subst (All (λ name. IsWithin limit (held name))) (sym (take-append-le place names more (omega (arith, h.one)))) h.before;
    }

pub reached_behind : (limit : ℕ) (held : Contents) (names contents : List (List ℕ)) (last : List ℕ) → contents_from 0 limit held names ≡ Ok contents
    → IsReached limit held (names ++ last ∷ []) (length names)
reached_behind limit held names contents last read =
    record {
      one = rw (length-append names (last ∷ [])) (omega arith);
      before = subst (All (λ name. IsWithin limit (held name))) (sym (take-append_seam names (last ∷ []))) (all_within 0 limit held names contents read);
    }

pub size_front : (limit : ℕ) (held : Contents) (names more : List (List ℕ)) → size_of limit held names ≤ size_of limit held (names ++ more)
size_front limit held [] more = omega arith
size_front limit held (name ∷ names) more = size_grows limit (held name) (size_of limit held names) (size_of limit held (names ++ more)) (size_front limit held names more)

-- what is read of files behind some that can be read
pub size_append : (limit : ℕ) (held : Contents) (names more : List (List ℕ)) → All (λ name. IsWithin limit (held name)) names
    → size_of limit held (names ++ more) ≡ size_of limit held names + size_of limit held more
size_append limit held [] more within = omega arith
size_append limit held (name ∷ names) more within =
    let first : IsWithin limit (held name) = within 0 name (omega arith) in
    let others : All (λ other. IsWithin limit (held other)) names = λ k d lt. within (suc k) d (omega (arith, lt)) in
    omega (arith, size_with limit (held name) (size_of limit held names) first, size_with limit (held name) (size_of limit held (names ++ more)) first, size_append limit held names more others)

-- the resolution can't be read
pub resolution_fault : (limit : ℕ) (held : Contents) (job : Job) (contents : List (List ℕ)) (place : ℕ) (fault : ReadsFault) → contents_from 0 limit held job.objects ≡ Ok contents
    → place ≡ length job.objects → GivesFile place limit (held job.resolution) (Err fault) → GivesFiles limit held job (Err fault)
resolution_fault limit held job contents place (Failed failed) read is h = subst (IsReached limit held (reads_of job)) (sym (h ∙ is)) (reached_behind limit held job.objects contents job.resolution read)
resolution_fault limit held job contents place TooLong read is h = rw (read, ← is, h) refl
resolution_fault limit held job contents place NoMemory read is h = tt
