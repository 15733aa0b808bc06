-- Jobs that are answered one after the other.
use Rattle.std.proofs.Common.{Option, Result, ◌≡◌, ◌≢◌, ℕ, zero, suc, ◌+◌, ◌<◌, List, [], ◌∷◌, ◌++◌, sym, ◌∙◌, ap, arith, length, take, get_or, subst}
use Rattle.std.specs.Prelude.{All}
use Rattle.std.specs.List.{AllZip}
use Rattle.std.proofs.lemmas.List.{take_more}
use Rattle.std.proofs.lemmas.Slice.Zip.{all_zipped_more}
use Rattle.std.proofs.lemmas.List.Elements.{All-take}
use Rattle.std.proofs.Math.Seq.{take-append_seam}
use Rattle.outer_files.specs.Outside.{Contents, OthersStand, WhereTold}
use Rattle.whopr_words.specs.declared.job_file.Job.{Job}
use Rattle.job_links.specs.declared.line.JobLine.{JobLine}
use Rattle.job_links.specs.declared.reading.JobFiles.{JobFiles}
use Rattle.job_links.specs.declared.reading.ReadsFault.{ReadsFault}
use Rattle.job_links.specs.Reads.{GivesFiles}
use Rattle.job_links.specs.Linking.{IsFinished}
use Rattle.job_links.proofs.Told.{told_then, told_both}
use Rattle.job_links.specs.Answers.{IsAnswered, AreAnswered, AreDistinct}

-- ---- lists place by place

pub zip_at : {A B : Type 0} (R : A → B → Type 0) (xs : List A) (ys : List B) (i : ℕ) (x : A) (y : B) → AllZip R xs ys → i < length xs → R (get_or xs i x) (get_or ys i y)
zip_at R [] [] i x y h lt = absurd (omega (arith, lt))
zip_at R [] (b ∷ ys) i x y h lt = absurd h
zip_at R (a ∷ xs) [] i x y h lt = absurd h
zip_at R (a ∷ xs) (b ∷ ys) zero x y h lt = h.0
zip_at R (a ∷ xs) (b ∷ ys) (suc i) x y h lt = zip_at R xs ys i x y h.1 (omega (arith, lt))

-- one more of each
pub zip_more : {A B : Type 0} (R : A → B → Type 0) (xs : List A) (ys : List B) (i : ℕ) (x : A) (y : B) → i < length xs → x ≡ get_or xs i x → AllZip R (take i xs) ys → R x y
    → AllZip R (take (i + 1) xs) (ys ++ y ∷ [])
zip_more R xs ys i x y lt is h r =
    subst (λ (t : List _). AllZip R t (ys ++ y ∷ [])) (sym (take_more xs i x lt ∙ ap (λ z. take i xs ++ z ∷ []) (sym is))) (all_zipped_more R (take i xs) ys x y h r)

pub all_head : {A : Type 0} (P : A → Type 0) (x : A) (xs : List A) → All P (x ∷ xs) → P x
all_head P x xs all = all 0 x (omega arith)

pub all_tail : {A : Type 0} (P : A → Type 0) (x : A) (xs : List A) → All P (x ∷ xs) → All P xs
all_tail P x xs all = λ k d lt. all (suc k) d (omega (arith, lt))

front_of : {A : Type 0} (xs : List A) (x : A) (P : A → Type 0) → All P (xs ++ x ∷ []) → All P xs
front_of xs x P all = subst (All P) (take-append_seam xs (x ∷ [])) (All-take P (length xs) (xs ++ x ∷ []) all)

last_of : {A : Type 0} (xs : List A) (x : A) (P : A → Type 0) → All P (xs ++ x ∷ []) → P x
last_of [] x P all = all_head P x [] all
last_of (y ∷ xs) x P all = last_of xs x P (all_tail P y (xs ++ x ∷ []) all)

-- ---- files that other jobs write

distinct_first : (first : Job) (jobs : List Job) (i : ℕ) (job : Job) → All (λ other. other.out ≢ first.out) jobs → i < length jobs → job ≡ get_or jobs i job → first.out ≢ job.out
distinct_first first [] i job others lt is = absurd (omega (arith, lt))
distinct_first first (next ∷ jobs) zero job others lt is =
    let apart : next.out ≢ first.out = all_head (λ (other : Job). other.out ≢ first.out) next jobs others in
    λ same. apart (sym (same ∙ ap (λ (j : Job). j.out) is))
distinct_first first (next ∷ jobs) (suc i) job others lt is = distinct_first first jobs i job (all_tail (λ (other : Job). other.out ≢ first.out) next jobs others) (omega (arith, lt)) is

-- the jobs before this one write other files
pub before_differ : (jobs : List Job) (i : ℕ) (job : Job) → AreDistinct jobs → i < length jobs → job ≡ get_or jobs i job → All (λ other. other.out ≢ job.out) (take i jobs)
before_differ [] i job distinct lt is = absurd (omega (arith, lt))
before_differ (first ∷ jobs) zero job distinct lt is = grind arith
before_differ (first ∷ jobs) (suc i) job distinct lt is =
    let this = distinct_first first jobs i job distinct.0 (omega (arith, lt)) is in
    let others = before_differ jobs i job distinct.1 (omega (arith, lt)) is in
    grind (arith, this, others)

-- what is said of jobs stays true where a file is written that is not theirs
pub kept : (limit : ℕ) (held old new : Contents) (name : List ℕ) (jobs : List Job) (lines : List JobLine) → OthersStand name old new → All (λ job. job.out ≢ name) jobs
    → AllZip (λ job line. IsAnswered limit held job line (old job.out)) jobs lines → AllZip (λ job line. IsAnswered limit held job line (new job.out)) jobs lines
kept limit held old new name [] [] others differ h = tt
kept limit held old new name [] (line ∷ lines) others differ h = absurd h
kept limit held old new name (job ∷ jobs) [] others differ h = absurd h
kept limit held old new name (job ∷ jobs) (line ∷ lines) others differ h = (
  subst (λ file. IsAnswered limit held job line file) (sym (others job.out (all_head (λ (j : Job). j.out ≢ name) job jobs differ))) h.0,
  kept limit held old new name jobs lines others (all_tail (λ (j : Job). j.out ≢ name) job jobs differ) h.1,
)

-- one more job is answered
pub answered_more : (limit : ℕ) (jobs : List Job) (lines : List JobLine) (i : ℕ) (job : Job) (line : JobLine) (held old new : Contents) → AreDistinct jobs → i < length jobs
    → job ≡ get_or jobs i job → AreAnswered limit (take i jobs) lines held old → OthersStand job.out old new
    → (old job.out ≡ held job.out → IsAnswered limit held job line (new job.out)) → AreAnswered limit (take (i + 1) jobs) (lines ++ line ∷ []) held new
answered_more limit jobs lines i job line held old new distinct lt is h others this =
    let differ = before_differ jobs i job distinct lt is in
    record {
      each = zip_more (λ j l. IsAnswered limit held j l (new j.out)) jobs lines i job line lt is (kept limit held old new job.out (take i jobs) lines others differ h.each)
          (this (h.others job.out differ));
      others = λ name apart.
          let all : All (λ j. j.out ≢ name) (take i jobs ++ job ∷ []) =
          subst (All (λ (j : Job). j.out ≢ name)) (take_more jobs i job lt ∙ ap (λ z. take i jobs ++ z ∷ []) (sym is)) apart in
          let last : job.out ≢ name = last_of (take i jobs) job (λ (j : Job). j.out ≢ name) all in
          others name (λ same. last (sym same)) ∙ h.others name (front_of (take i jobs) job (λ (j : Job). j.out ≢ name) all);
    }

-- what is told of the jobs that are answered so far
abbrev pub SoFar : ℕ → List Job → List (Result JobFiles ReadsFault) → ℕ → List JobLine → Contents → Contents → Type 0
SoFar limit jobs readings i lines old new = AllZip (GivesFiles limit old) jobs readings → AreAnswered limit (take i jobs) lines old new

abbrev pub Finishes : ℕ → Job → Result JobFiles ReadsFault → JobLine → Contents → Contents → Type 0
Finishes limit job reading line old new = OthersStand job.out old new × IsFinished limit job reading line old new

pub told_more : (limit : ℕ) (jobs : List Job) (readings : List (Result JobFiles ReadsFault)) (lines : List JobLine) (i : ℕ) (job : Job) (reading : Result JobFiles ReadsFault)
    (line : JobLine) (a b c : Option Contents) → AreDistinct jobs → i < length jobs → job ≡ get_or jobs i job → reading ≡ get_or readings i reading
    → WhereTold a b (SoFar limit jobs readings i lines) → WhereTold b c (OthersStand job.out) → WhereTold b c (IsFinished limit job reading line)
    → WhereTold a c (SoFar limit jobs readings (i + 1) (lines ++ line ∷ []))
told_more limit jobs readings lines i job reading line a b c distinct lt is at done stand finished =
    told_then (SoFar limit jobs readings i lines) (Finishes limit job reading line) (SoFar limit jobs readings (i + 1) (lines ++ line ∷ [])) a b c
    (λ held old new so_far this given.
    let one : GivesFiles limit held job reading =
    subst (λ (j : Job). GivesFiles limit held j reading) (sym is)
    (subst (λ (r : Result JobFiles ReadsFault). GivesFiles limit held (get_or jobs i job) r) (sym at) (zip_at (GivesFiles limit held) jobs readings i job reading given lt)) in
    answered_more limit jobs lines i job line held old new distinct lt is (so_far given) this.0 (this.1 held one))
    done (told_both (OthersStand job.out) (IsFinished limit job reading line) (Finishes limit job reading line) b c (λ old new x y. (x, y)) stand finished)
