-- The statuses of a command, when each comes, and what is printed with it.
use Rattle.std.specs.Prelude.{◌≡◌, ◌≢◌, ℕ, ◌==◌, ◌⊎◌, List, [], ◌∷◌, ◌++◌, Bool, if◌then◌else◌, Option, Some, codes, decimal, IsTrue, IfSome, IsSomeAnd}
use Rattle.std.specs.List.{list_any}
use Rattle.outer_files.specs.Outside.{Contents, Known, TookPiece, FailedPiece, LackedMemory}
use Rattle.gimple_syntax.specs.declared.text.TextKind.{TextKind}
use Rattle.lto_object.specs.declared.fault.ObjectFault.{ObjectFault}
use Rattle.program_link.specs.declared.fault.LimitFault.{LimitFault}
use Rattle.resolution_text.specs.declared.fault.ResolutionKind.{ResolutionKind}
use Rattle.whopr_top.specs.declared.refusal.ResolutionPlace.{ResolutionPlace}
use Rattle.whopr_words.specs.Commands.{Spoken, Cc, Lgen, Show, Resolve}
use Rattle.whopr_top.specs.Reads.{reads_of, MayWrite, IsOverLimit, IsReached}
use Rattle.whopr_top.specs.Lines.{line, text_line, object_line, limit_line, resolution_line, batch_bytes_line, jobs_line}
use Rattle.whopr_top.specs.Judgements.{File}
use Rattle.whopr_top.specs.Outputs.{IsJudged, IsRefused}

-- A status comes exactly for its cause. Want of memory, 7, may come in its place.
pub record Exactly (status result : ℕ) (cause : Type 0) : Type 0 where
  pub only : result ≡ status → cause
  pub always : cause → (result ≡ status) ⊎ (result ≡ 7)

-- the statuses that there are
abbrev pub is_status : ℕ → Bool
is_status status = list_any (λ s. s == status) (0 ∷ 2 ∷ 3 ∷ 4 ∷ 5 ∷ 6 ∷ 7 ∷ 8 ∷ 9 ∷ 10 ∷ 11 ∷ [])

-- the statuses of a command that was refused before its first write
abbrev pub is_early : ℕ → Bool
is_early status = list_any (λ s. s == status) (2 ∷ 3 ∷ 4 ∷ 5 ∷ 8 ∷ 9 ∷ 10 ∷ 11 ∷ [])

-- the statuses of a command that what it read refuses
abbrev pub is_judged : ℕ → Bool
is_judged status = list_any (λ s. s == status) (3 ∷ 8 ∷ 9 ∷ 10 ∷ 11 ∷ [])

-- how many lines that name a file are printed with a status of 5 or 6, where the sink itself does not fail
abbrev pub lines_of : ℕ → ℕ
lines_of status = if status == 5 then 1 else if status == 6 then 1 else 0

-- the commands that print nothing when they were done
abbrev pub IsQuiet : Option Spoken → Type 0
IsQuiet (Some (Cc input output)) = Unit {0}
IsQuiet (Some (Lgen input output)) = Unit {0}
IsQuiet (Some (Resolve output objects)) = Unit {0}
IsQuiet command = ⊥

-- the commands whose text may be empty when they were done: a module that declares nothing has an empty text
abbrev pub CanBeSilent : Option Spoken → Type 0
CanBeSilent (Some (Cc input output)) = Unit {0}
CanBeSilent (Some (Lgen input output)) = Unit {0}
CanBeSilent (Some (Show object)) = Unit {0}
CanBeSilent (Some (Resolve output objects)) = Unit {0}
CanBeSilent command = ⊥

-- the line of a file that is too long
abbrev pub file_bytes_line : List ℕ
file_bytes_line = line (codes "4 limit FileBytes 16777217 16777216")

-- the line of what is too large, by what the command reads: a file, the objects together, or the program
abbrev pub IsLimitLine : ℕ → Contents → Spoken → List ℕ → Type 0
IsLimitLine limit held command text = (IsOverLimit limit held (reads_of held command) × (text ≡ file_bytes_line)) ⊎ IsRefused limit command held 4 text

-- The text that goes with a status, by what the command reads, where that is told.
pub record IsLine (limit : ℕ) (held : Option Contents) (command : Option Spoken) (status : ℕ) (text : List ℕ) : Type 0 where
  pub done : status ≡ 0 → IfSome held (λ files. IsSomeAnd command (λ c. (written : List File) × IsJudged limit c files written text))
  pub quiet : status ≡ 0 → IsQuiet command → text ≡ []
  pub silent : status ≡ 0 → text ≡ [] → CanBeSilent command
  pub words : status ≡ 2 → text ≡ line (codes "2 words")
  pub object : status ≡ 3 → (number : ℕ) × (fault : ObjectFault) × (text ≡ object_line number fault)
  pub over : status ≡ 4 → (text ≡ file_bytes_line) ⊎ (text ≡ batch_bytes_line) ⊎ ((passed : LimitFault) × (text ≡ limit_line passed))
  pub limited : status ≡ 4 → IfSome held (λ files. IsSomeAnd command (λ c. IsLimitLine limit files c text))
  pub read : status ≡ 5 → IsSomeAnd command (λ c. (name : List ℕ) × IfSome held (λ files. IsReached limit files (reads_of files c) name) × (text ≡ line (codes "5 read " ++ name)))
  pub write : status ≡ 6 → IsSomeAnd command (λ c. (name : List ℕ) × MayWrite c name × (text ≡ line (codes "6 write " ++ name)))
  pub memory : status ≡ 7 → text ≡ line (codes "7 memory")
  pub resolution : status ≡ 8 → (kind : ResolutionKind) × (place : ResolutionPlace) × (text ≡ resolution_line kind place)
  pub spelled : status ≡ 9 → (at : ℕ) × (kind : TextKind) × (text ≡ text_line at kind)
  pub jobs : status ≡ 10 → (number : ℕ) × (text ≡ jobs_line number)
  pub image : status ≡ 11 → (offset : ℕ) × (text ≡ line (codes "11 image " ++ decimal offset))
  pub refused : IsTrue (is_judged status) → IfSome held (λ files. IsSomeAnd command (λ c. IsRefused limit c files status text))

-- the line for the sink, where it fails itself
abbrev pub sink_line : List ℕ
sink_line = line (codes "6 write -")

-- the status of a command whose print the sink refused: that of its refusal, if it was refused
abbrev pub after_fault : ℕ → ℕ
after_fault status = if status == 0 then 6 else status

-- one put of this piece, whatever came of it
abbrev pub WasPut : List ℕ → Known → Known → Type 0
WasPut piece old new = TookPiece piece old new ⊎ FailedPiece piece old new ⊎ LackedMemory old new

-- the sink failed at a put of this text, and the line for that was put once, whatever came of it
pub record PutsFault (text : List ℕ) (old new : Known) : Type 0 where
  pub between : Known
  pub failed : FailedPiece text old between
  pub line : WasPut sink_line between new

-- A text was put once, and the command answers its status; or the sink failed at it, and the line for that was put once;
-- or there was no memory for it, and nothing more was put.
abbrev pub Puts : List ℕ → ℕ → ℕ → Known → Known → Type 0
Puts text status result old new =
    ((result ≡ status) × TookPiece text old new)
    ⊎ ((result ≡ after_fault status) × PutsFault text old new)
    ⊎ ((result ≡ 7) × LackedMemory old new)

-- What was put: nothing, by a command that was done and has an empty text; or the text of the status that is answered, and where
-- the sink failed at a refusal's line, the line for that; or the text of a command that was done, at which the sink failed; or
-- nothing for want of memory.
abbrev pub PutsLine : ℕ → Option Contents → Option Spoken → ℕ → Known → Known → Type 0
PutsLine limit held command result old new =
    ((result ≡ 0) × IsLine limit held command 0 [] × (new ≡ old))
    ⊎ ((text : List ℕ) × (text ≢ []) × IsLine limit held command result text × TookPiece text old new)
    ⊎ ((result ≢ 0) × (text : List ℕ) × (text ≢ []) × IsLine limit held command result text × PutsFault text old new)
    ⊎ ((result ≡ 6) × (text : List ℕ) × (text ≢ []) × IsLine limit held command 0 text × PutsFault text old new)
    ⊎ ((result ≡ 7) × LackedMemory old new)
