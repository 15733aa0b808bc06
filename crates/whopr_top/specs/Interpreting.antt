-- What the steps of the run of a job's program give.
use Rattle.std.specs.Prelude.{◌≡◌, ℕ, List, IfSome, Option, Result, Ok, Err}
use Rattle.outer_files.specs.Outside.{Contents, Rose}
use Rattle.resolution_text.specs.declared.fault.ResolutionError.{ResolutionError}
use Rattle.resolution_text.specs.declared.fault.ResolutionError.TheVariants as errors
use Rattle.whopr_top.specs.declared.refusal.Refusal.{Refusal}
use Rattle.whopr_top.specs.declared.refusal.Refusal.TheVariants.{NoCommand, TooLong, Read, ReadOf, Write, Memory, Resolution}
use Rattle.whopr_top.specs.declared.refusal.ResolutionPlace.TheVariants.{AtLine, AtName}
use Rattle.whopr_top.specs.Reads.{AreHeld, IsOverLimit, IsReached}
use Rattle.whopr_top.specs.Judgements.{Judgement, Refuses}
use Rattle.whopr_top.specs.Refusal.{status_of, refusal_line}

-- ---- the refusals of the steps

-- objects that have no resolution, or that do not merge under it
abbrev pub of_resolution : ResolutionError → Refusal
of_resolution (errors.AtLine kind number) = Resolution kind (AtLine number)
of_resolution (errors.AtName kind name) = Resolution kind (AtName name)
of_resolution errors.NoMemory = Memory

-- what is defined, or the refusal by it, unless memory ran out; it is by bytes that were read, and not of a read or a write
abbrev pub Answers : {A : Type 0} → Result A Refusal → Result A Judgement → Type 0
Answers (Ok a) defined = defined ≡ Ok a
Answers (Err NoCommand) defined = ⊥
Answers (Err TooLong) defined = ⊥
Answers (Err (Read name)) defined = ⊥
Answers (Err (ReadOf name)) defined = ⊥
Answers (Err (Write name)) defined = ⊥
Answers (Err Memory) defined = Unit {0}
Answers (Err refusal) defined = defined ≡ Err (Refuses (status_of refusal) (refusal_line refusal))

-- ---- by what is held

-- the files with these names are held within the limit, and their bytes come to this
pub record ComesTo (limit : ℕ) (held : Contents) (names : List (List ℕ)) (judges : List (List ℕ) → Judgement → Type 0) (judgement : Judgement) : Type 0 where
  pub contents : List (List ℕ)
  pub read : AreHeld limit held names contents
  pub judged : judges contents judgement

-- why a command is refused before its first write, which reads these files and judges their bytes so
abbrev pub IsStop : ℕ → (Contents → List (List ℕ)) → (List (List ℕ) → Judgement → Type 0) → Option Contents → ℕ → ℕ → Refusal → Type 0
IsStop limit reads judges held before now NoCommand = ⊥
IsStop limit reads judges held before now TooLong = IfSome held (λ files. IsOverLimit limit files (reads files))
IsStop limit reads judges held before now (Read name) = Rose before now × IfSome held (λ files. IsReached limit files (reads files) name.now)
IsStop limit reads judges held before now (ReadOf name) = Rose before now × IfSome held (λ files. IsReached limit files (reads files) name)
IsStop limit reads judges held before now (Write name) = ⊥
IsStop limit reads judges held before now Memory = Unit {0}
IsStop limit reads judges held before now refusal = IfSome held (λ files. ComesTo limit files (reads files) judges (Refuses (status_of refusal) (refusal_line refusal)))
