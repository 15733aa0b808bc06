-- How a command went before it printed anything: its status, its text, and what became of the files.
use Rattle.std.specs.Prelude.{◌≡◌, ◌≢◌, ℕ, ◌⊎◌, List, [], Option, None, IsTrue, IfSome, IsSomeAnd, codes, decimal, ◌++◌}
use Rattle.std.specs.Option.{ForSome}
use Rattle.outer_files.specs.Outside.{Contents, WhereTold, Rose, RoseBy}
use Rattle.gimple_syntax.specs.declared.text.TextKind.{TextKind}
use Rattle.lto_object.specs.declared.fault.ObjectFault.{ObjectFault}
use Rattle.program_link.specs.declared.fault.LimitFault.{LimitFault}
use Rattle.resolution_text.specs.declared.fault.ResolutionKind.{ResolutionKind}
use Rattle.whopr_top.specs.declared.refusal.ResolutionPlace.{ResolutionPlace}
use Rattle.whopr_words.specs.Commands.{Spoken}
use Rattle.whopr_top.specs.Reads.{reads_of, MayWrite, IsAbsent, IsReached}
use Rattle.whopr_top.specs.Lines.{line, text_line, object_line, limit_line, resolution_line, batch_bytes_line, jobs_line}
use Rattle.whopr_top.specs.Judgements.{File}
use Rattle.whopr_top.specs.Outputs.{IsJudged, IsRefused, Done, Faithful, CutShort, Refused, IsTooLarge, IsValid}
use Rattle.whopr_top.specs.Answers.{Exactly, is_status, is_early, is_judged, lines_of, IsQuiet, CanBeSilent, file_bytes_line, IsLimitLine}

-- what does not ask for what the command comes to by what it read
pub record Attempt (limit : ℕ) (command : Option Spoken) (old new : Option Contents) (status : ℕ) : Type 0 where
  pub answers : IsTrue (is_status status)
  pub words : Exactly 2 status (command ≡ None)
  pub absent : ForSome old (λ held. IsSomeAnd command (λ c. IsAbsent limit held (reads_of held c)) → (status ≡ 5) ⊎ (status ≡ 7))
  pub early : IsTrue (is_early status) → new ≡ old
  pub memory : status ≡ 7 → new ≡ old

-- the store's count of faults before and after
pub record Counted (before now status : ℕ) : Type 0 where
  pub read : status ≡ 5 → Rose before now
  pub write : status ≡ 6 → Rose before now
  pub counting : RoseBy (lines_of status) before now

-- the text of a command that is quiet and the lines of refusals, whatever the store tells
pub record Lined (limit : ℕ) (command : Option Spoken) (old : Option Contents) (status : ℕ) (text : List ℕ) : Type 0 where
  pub quiet : status ≡ 0 → IsQuiet command → text ≡ []
  pub silent : status ≡ 0 → text ≡ [] → CanBeSilent command
  pub words : status ≡ 2 → text ≡ line (codes "2 words")
  pub object : status ≡ 3 → (number : ℕ) × (fault : ObjectFault) × (text ≡ object_line number fault)
  pub over : status ≡ 4 → (text ≡ file_bytes_line) ⊎ (text ≡ batch_bytes_line) ⊎ ((passed : LimitFault) × (text ≡ limit_line passed))
  pub read : status ≡ 5 → IsSomeAnd command (λ c. (name : List ℕ) × IfSome old (λ files. IsReached limit files (reads_of files c) name) × (text ≡ line (codes "5 read " ++ name)))
  pub write : status ≡ 6 → IsSomeAnd command (λ c. (name : List ℕ) × MayWrite c name × (text ≡ line (codes "6 write " ++ name)))
  pub memory : status ≡ 7 → text ≡ line (codes "7 memory")
  pub resolution : status ≡ 8 → (kind : ResolutionKind) × (place : ResolutionPlace) × (text ≡ resolution_line kind place)
  pub spelled : status ≡ 9 → (at : ℕ) × (kind : TextKind) × (text ≡ text_line at kind)
  pub jobs : status ≡ 10 → (number : ℕ) × (text ≡ jobs_line number)
  pub image : status ≡ 11 → (offset : ℕ) × (text ≡ line (codes "11 image " ++ decimal offset))

-- what the command comes to by what it read
pub record Judged (limit : ℕ) (command : Option Spoken) (old new : Option Contents) (before now status : ℕ) (text : List ℕ) : Type 0 where
  pub object : ForSome old (λ held. status ≢ 5 → Exactly 3 status (Refused 3 limit held command))
  pub large : ForSome old (λ held. status ≢ 5 → Exactly 4 status (IsTooLarge limit held command))
  pub resolution : ForSome old (λ held. status ≢ 5 → Exactly 8 status (Refused 8 limit held command))
  pub spelled : ForSome old (λ held. status ≢ 5 → Exactly 9 status (Refused 9 limit held command))
  pub jobs : ForSome old (λ held. status ≢ 5 → Exactly 10 status (Refused 10 limit held command))
  pub image : ForSome old (λ held. status ≢ 5 → Exactly 11 status (Refused 11 limit held command))
  pub complete : ForSome old (λ held. IsValid limit held command → ¬ Rose before now → (status ≡ 0) ⊎ (status ≡ 7))
  pub done : status ≡ 0 → WhereTold old new (Done limit command)
  pub follows : status ≡ 0 → WhereTold old new (Faithful command)
  pub cut_short : status ≡ 6 → WhereTold old new (CutShort limit command)
  pub done_line : status ≡ 0 → IfSome old (λ files. IsSomeAnd command (λ c. (written : List File) × IsJudged limit c files written text))
  pub large_line : status ≡ 4 → IfSome old (λ files. IsSomeAnd command (λ c. IsLimitLine limit files c text))
  pub refused_line : IsTrue (is_judged status) → IfSome old (λ files. IsSomeAnd command (λ c. IsRefused limit c files status text))
