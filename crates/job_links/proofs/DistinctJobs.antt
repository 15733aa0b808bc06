-- The jobs that a text spells write different files.
use Rattle.std.proofs.Common.{◌≡◌, ◌≢◌, ℕ, zero, suc, List, [], ◌∷◌, ◌++◌, Option, Some, None, Result, Ok, Err, Bool, true, false, not, ◌&&◌, sym, refl, arith, subst}
use Rattle.std.specs.Prelude.{All, nat_le, codes, ◌+◌}
use Rattle.std.proofs.lemmas.List.Elements.{All-append}
use Rattle.std.proofs.lemmas.Slice.Eq.{bytes_eq-Decides}
use Rattle.text_lines.specs.Lines.{Lines, lines_in}
use Rattle.text_lines.specs.Words.{words_of, name_of}
use Rattle.text_lines.specs.Reading.{line_by, line_from, taken, ◌then◌, counted, end_from}
use Rattle.whopr_words.specs.declared.job_file.Job.{Job}
use Rattle.whopr_words.specs.declared.job_file.Jobs.{Jobs}
use Rattle.whopr_words.specs.WordReading.{◌>>=◌, when, is_nil, word_is, first_by, number_by}
use Rattle.whopr_words.specs.Jobs.{options_by, stands_before, workers_of, is_allowed, link_of, link_at, link_by, object_at, job_by, links_after, batch_at, jobs_by, with_fault, jobs_in}
use Rattle.job_links.specs.Answers.{AreDistinct}
use Rattle.job_links.proofs.Answered.{all_head, all_tail}

-- ---- steps that give something

then_gives : {A B : Type 0} (r : Result A ℕ) (f : A → Result B ℕ) (b : B) → (r then f) ≡ Ok b → (a : A) × (r ≡ Ok a) × (f a ≡ Ok b)
then_gives (Ok a) f b h = (a, refl, h)
then_gives (Err line) f b h = grind arith

some_gives : {A B : Type 0} (o : Option A) (f : A → Option B) (b : B) → (o >>= f) ≡ Some b → (a : A) × (o ≡ Some a) × (f a ≡ Some b)
some_gives None f b h = grind arith
some_gives (Some a) f b h = (a, refl, h)

when_gives : {A : Type 0} (test : Bool) (o : Option A) (a : A) → when test o ≡ Some a → (test ≡ true) × (o ≡ Some a)
when_gives true o a h = (refl, h)
when_gives false o a h = grind arith

taken_gives : {A : Type 0} (number : ℕ) (rest : List (List ℕ)) (o : Option A) (a : A × Lines) → taken number rest o ≡ Ok a → o ≡ Some a.0
taken_gives number rest None a h = grind arith
taken_gives number rest (Some x) a h = grind (arith, h)

line_gives : {A : Type 0} (read : List ℕ → Option A) (number : ℕ) (rest : List (List ℕ)) (a : A × Lines) → line_from read number rest ≡ Ok a
    → (line : List ℕ) × (read line ≡ Some a.0)
line_gives read number [] a h = grind arith
line_gives read number (line ∷ rest) a h = (line, taken_gives number rest (read line) a h)

end_gives : {A : Type 0} (x : A) (number : ℕ) (rest : List (List ℕ)) (a : A) → end_from x number rest ≡ Ok a → x ≡ a
end_gives x number [] a h = grind (arith, h)
end_gives x number (line ∷ rest) a h = grind arith

jobs_given : (r : Result Jobs ℕ) (jobs : Jobs) → with_fault r ≡ Ok jobs → r ≡ Ok jobs
jobs_given (Ok found) jobs h = grind (arith, h)
jobs_given (Err line) jobs h = grind arith

-- ---- no job before writes the same file

none_before : (before : List Job) (out : List ℕ) → stands_before before out ≡ false → All (λ job. job.out ≢ out) before
none_before [] out h = grind arith
none_before (job ∷ before) out h = grind (arith, bytes_eq-Decides job.out out, none_before before out)

all_more : (before : List Job) (job first : Job) → All (λ other. other.out ≢ first.out) before → job.out ≢ first.out → All (λ other. other.out ≢ first.out) (before ++ job ∷ [])
all_more before job first others differs = All-append (λ (other : Job). other.out ≢ first.out) before (job ∷ []) others (grind (arith, differs))

distinct_more : (before : List Job) (job : Job) → AreDistinct before → All (λ other. other.out ≢ job.out) before → AreDistinct (before ++ job ∷ [])
distinct_more [] job distinct others = (grind arith, tt)
distinct_more (first ∷ before) job distinct others =
    let apart : first.out ≢ job.out = all_head (λ (other : Job). other.out ≢ job.out) first before others in
    (all_more before job first distinct.0 (λ same. apart (sym same)), distinct_more before job distinct.1 (all_tail (λ (other : Job). other.out ≢ job.out) first before others))

-- ---- the reading of jobs

allowed_after : (a b c : Bool) → (a && (not b && c)) ≡ true → b ≡ false
allowed_after true true c h = grind (arith, h)
allowed_after true false c h = refl
allowed_after false b c h = grind (arith, h)

job_allowed : (before : List Job) (lines : Lines) (job : Job × Lines) → job_by before lines ≡ Ok job → stands_before before job.0.out ≡ false
unfolding link_of
job_allowed before lines job h =
    let link = then_gives (link_by before lines) _ job h in
    let objects = then_gives (counted object_at link.0.0.objects 0 link.0.1) _ job link.2 in
    let line = line_gives (link_at before) lines.number lines.rest link.0 link.1 in
    let a = some_gives (word_is (codes "link") (words_of line.0)) _ link.0.0 line.1 in
    let b = some_gives (first_by name_of a.0) _ link.0.0 a.2 in
    let c = some_gives (first_by name_of b.0.1) _ link.0.0 b.2 in
    let d = some_gives (options_by c.0.1) _ link.0.0 c.2 in
    let e = some_gives (number_by (codes "objects") 1 256 d.0.1) _ link.0.0 d.2 in
    let f = when_gives (is_nil e.0.1 && is_allowed before b.0.0 d.0.0.workers) _ link.0.0 e.2 in
    let allowed = allowed_after (is_nil e.0.1) (stands_before before b.0.0) (nat_le (workers_of before + d.0.0.workers) 256) f.0 in
    let named : link.0.0.out ≡ b.0.0 = grind (arith, f.1) in
    let same : job.0.out ≡ link.0.0.out = grind (arith, objects.2) in
    rw (same, named) allowed

links_distinct : (count : ℕ) (before : List Job) (lines : Lines) (links : List Job × Lines) → AreDistinct before → links_after count before lines ≡ Ok links → AreDistinct links.0
links_distinct zero before lines links distinct h = subst AreDistinct (grind (arith, h)) distinct
links_distinct (suc count) before lines links distinct h =
    let a = then_gives (job_by before lines) _ links h in
    let allowed = job_allowed before lines a.0 a.1 in
    links_distinct count (before ++ a.0.0 ∷ []) a.0.1 links (distinct_more before a.0.0 distinct (none_before before a.0.0.out allowed)) a.2

pub jobs_distinct : (text : List ℕ) (jobs : Jobs) → jobs_in text ≡ Ok jobs → AreDistinct jobs.links
jobs_distinct text jobs h =
    let a = then_gives (line_by batch_at (lines_in text)) _ jobs (jobs_given (jobs_by (lines_in text)) jobs h) in
    let b = then_gives (links_after a.0.0.0 [] a.0.1) _ jobs a.2 in
    let same = end_gives _ b.0.1.number b.0.1.rest jobs b.2 in
    let distinct = links_distinct a.0.0.0 [] a.0.1 b.0 tt b.1 in
    subst (λ (found : Jobs). AreDistinct found.links) same distinct
