-- How much is read of files, at the least.
use Rattle.std.proofs.Common.{◌≡◌, ℕ, ◌+◌, ◌<◌, List, [], ◌∷◌, ◌++◌, Option, Some, None, Result, Ok, Err, sym, ◌∙◌, ap, refl, arith, length, take, drop, get_or, subst}
use Rattle.std.specs.Prelude.{All}
use Rattle.std.specs.List.{AllZip}
use Rattle.std.proofs.lemmas.List.{take-append-le, take-append-drop, take_more, length-append}
use Rattle.std.proofs.Math.Seq.{take-append_seam}
use Rattle.std.proofs.lemmas.Grind.{common_steps}
use Rattle.outer_files.specs.Outside.{Contents, RoseBy}
use Rattle.whopr_words.specs.declared.job_file.Job.{Job}
use Rattle.job_links.specs.declared.reading.JobFiles.{JobFiles}
use Rattle.job_links.specs.declared.reading.ReadsFault.{ReadsFault}
use Rattle.job_links.specs.declared.reading.ReadsFault.TheVariants.{Failed, TooLong, NoMemory}
use Rattle.job_links.specs.Reads.{IsWithin, IsSuited, file_by, contents_with, contents_from, GivesFile, GivesContents, size_by, size_of, size_given, batch_given, reads_of}
use Rattle.job_links.proofs.ReadingFiles.{Found, size_append, size_next, all_within}
use Rattle.job_links.proofs.Counted.{rose_then}

-- ---- one file

file_size : (place limit : ℕ) (file : Option (List ℕ)) (bytes : List ℕ) → file_by place limit file ≡ Ok bytes → size_by limit file 0 ≡ length bytes
file_size place limit None bytes is = grind (arith, is)
file_size place limit (Some held) bytes is = grind (arith, is)

file_long : (place limit : ℕ) (file : Option (List ℕ)) (more : ℕ) → file_by place limit file ≡ Err TooLong → size_by limit file more ≡ 0
file_long place limit None more is = grind (arith, is)
file_long place limit (Some held) more is = grind (arith, is)

-- ---- the files so far

before_and_after : (limit : ℕ) (held : Contents) (names : List (List ℕ)) (n : ℕ) → All (λ name. IsWithin limit (held name)) (take n names)
    → size_of limit held names ≡ size_of limit held (take n names) + size_of limit held (drop n names)
before_and_after limit held names n within =
    ap (λ (all : List (List ℕ)). size_of limit held all) (sym (take-append-drop n names)) ∙ size_append limit held (take n names) (drop n names) within

pub least_more : (limit : ℕ) (held : Contents) (names : List (List ℕ)) (n : ℕ) (name bytes : List ℕ) (whole before now : ℕ) → n < length names → name ≡ get_or names n name
    → file_by n limit (held name) ≡ Ok bytes → All (λ other. IsWithin limit (held other)) (take n names) → RoseBy (size_of limit held (take n names)) whole before
    → RoseBy (length bytes) before now → RoseBy (size_of limit held (take (n + 1) names)) whole now
least_more limit held names n name bytes whole before now lt is read within least this =
    let more : take (n + 1) names ≡ take n names ++ name ∷ [] = take_more names n name lt ∙ ap (λ z. take n names ++ z ∷ []) (sym is) in
    let size : size_of limit held (take (n + 1) names) ≡ size_of limit held (take n names) + length bytes =
    ap (λ (all : List (List ℕ)). size_of limit held all) more ∙ size_append limit held (take n names) (name ∷ []) within
    ∙ ap (λ k. size_of limit held (take n names) + k) (file_size n limit (held name) bytes read) in
    rose_then _ _ _ whole before now size least this

-- the file at this place can't be read
pub least_fault : (A : Type 0) (limit : ℕ) (held : Contents) (names : List (List ℕ)) (n : ℕ) (name : List ℕ) (fault : ReadsFault) (whole before now : ℕ) → n < length names
    → name ≡ get_or names n name → GivesFile n limit (held name) (Err fault) → All (λ other. IsWithin limit (held other)) (take n names)
    → RoseBy (size_of limit held (take n names)) whole before → RoseBy 0 before now → RoseBy (size_given {A = A} limit held names (Err fault)) whole now
least_fault A limit held names n name (Failed place) whole before now lt is gives within least this =
    subst (λ p. RoseBy (size_of limit held (take p names)) whole now) (sym gives) (omega (arith, least, this))
least_fault A limit held names n name TooLong whole before now lt is gives within least this =
    let rest = size_of limit held (drop (n + 1) names) in
    omega (arith, least, this, before_and_after limit held names n within, size_next limit held names n name lt is, file_long n limit (held name) rest gives)
least_fault A limit held names n name NoMemory whole before now lt is gives within least this = omega (arith, least, this)

-- ---- the files of a job

long_first : (place limit : ℕ) (file : Option (List ℕ)) (found : Found) (less more : ℕ) → contents_with (file_by place limit file) found ≡ Err TooLong
    → (found ≡ Err TooLong → less ≡ more) → size_by limit file less ≡ size_by limit file more
long_first place limit None found less more is same = refl
long_first place limit (Some held) (Ok contents) less more is same = grind (arith, is)
long_first place limit (Some held) (Err fault) less more is same = grind (arith, is, same)

long_size : (place limit : ℕ) (held : Contents) (names more : List (List ℕ)) → contents_from place limit held names ≡ Err TooLong
    → size_of limit held names ≡ size_of limit held (names ++ more)
long_size place limit held [] more is = grind (arith, is)
long_size place limit held (name ∷ names) more is =
    long_first place limit (held name) (contents_from (place + 1) limit held names) (size_of limit held names) (size_of limit held (names ++ more)) is
    (long_size (place + 1) limit held names more)

-- an object can't be read
pub given_front : (limit : ℕ) (held : Contents) (names more : List (List ℕ)) (fault : ReadsFault) → GivesContents limit held names (Err fault)
    → size_given {A = List (List ℕ)} limit held names (Err fault) ≡ size_given {A = JobFiles} limit held (names ++ more) (Err fault)
given_front limit held names more (Failed place) gives = ap (λ (all : List (List ℕ)). size_of limit held all) (sym (take-append-le place names more (omega (arith, gives.one))))
given_front limit held names more TooLong gives = long_size 0 limit held names more gives
given_front limit held names more NoMemory gives = refl

last_at : (names : List (List ℕ)) (last : List ℕ) → last ≡ get_or (names ++ last ∷ []) (length names) last
last_at names last = grind (arith, common_steps)

-- the resolution can't be read
pub last_fault : (limit : ℕ) (held : Contents) (names contents : List (List ℕ)) (last : List ℕ) (place : ℕ) (fault : ReadsFault) (whole before now : ℕ)
    → contents_from 0 limit held names ≡ Ok contents → place ≡ length names → GivesFile place limit (held last) (Err fault) → RoseBy (size_of limit held names) whole before
    → RoseBy 0 before now → RoseBy (size_given {A = JobFiles} limit held (names ++ last ∷ []) (Err fault)) whole now
last_fault limit held names contents last place fault whole before now read is gives least this =
    let seam = take-append_seam names (last ∷ []) in
    least_fault JobFiles limit held (names ++ last ∷ []) (length names) last fault whole before now (rw (length-append names (last ∷ [])) (omega arith)) (last_at names last)
    (subst (λ n. GivesFile n limit (held last) (Err fault)) is gives) (subst (All (λ name. IsWithin limit (held name))) (sym seam) (all_within 0 limit held names contents read))
    (subst (λ (front : List (List ℕ)). RoseBy (size_of limit held front) whole before) (sym seam) least) this

pub last_read : (limit : ℕ) (held : Contents) (names contents : List (List ℕ)) (last bytes : List ℕ) (place whole before now : ℕ) → contents_from 0 limit held names ≡ Ok contents
    → file_by place limit (held last) ≡ Ok bytes → RoseBy (size_of limit held names) whole before → RoseBy (length bytes) before now
    → RoseBy (size_of limit held (names ++ last ∷ [])) whole now
last_read limit held names contents last bytes place whole before now read gives least this =
    rose_then _ _ _ whole before now
    (size_append limit held names (last ∷ []) (all_within 0 limit held names contents read) ∙ ap (λ k. size_of limit held names + k) (file_size place limit (held last) bytes gives)) least this

-- ---- the jobs so far

given_push : (limit : ℕ) (held : Contents) (jobs : List Job) (readings : List (Result JobFiles ReadsFault)) (job : Job) (reading : Result JobFiles ReadsFault)
    → AllZip (IsSuited limit) jobs readings
    → batch_given limit held (jobs ++ job ∷ []) (readings ++ reading ∷ []) ≡ batch_given limit held jobs readings + size_given limit held (reads_of job) reading
given_push limit held [] [] job reading suited = omega arith
given_push limit held [] (other ∷ readings) job reading suited = absurd suited
given_push limit held (first ∷ jobs) [] job reading suited = absurd suited
given_push limit held (first ∷ jobs) (other ∷ readings) job reading suited = omega (arith, given_push limit held jobs readings job reading suited.1)

pub given_more : (limit : ℕ) (held : Contents) (jobs : List Job) (readings : List (Result JobFiles ReadsFault)) (i : ℕ) (job : Job) (reading : Result JobFiles ReadsFault)
    (whole before now : ℕ) → i < length jobs → job ≡ get_or jobs i job → AllZip (IsSuited limit) (take i jobs) readings
    → RoseBy (batch_given limit held (take i jobs) readings) whole before → RoseBy (size_given limit held (reads_of job) reading) before now
    → RoseBy (batch_given limit held (take (i + 1) jobs) (readings ++ reading ∷ [])) whole now
given_more limit held jobs readings i job reading whole before now lt is suited least this =
    let more : take (i + 1) jobs ≡ take i jobs ++ job ∷ [] = take_more jobs i job lt ∙ ap (λ z. take i jobs ++ z ∷ []) (sym is) in
    rose_then _ _ _ whole before now
    (ap (λ (all : List Job). batch_given limit held all (readings ++ reading ∷ [])) more ∙ given_push limit held (take i jobs) readings job reading suited) least this
