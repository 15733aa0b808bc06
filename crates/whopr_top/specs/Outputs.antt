-- What the files hold after a command, by what it read.
use Rattle.std.specs.Prelude.{◌≡◌, ℕ, ◌⊎◌, List, [], ◌∷◌, Option, Some, IsSomeAnd, Ok}
use Rattle.outer_files.specs.Outside.{Contents, Writes, WritesPrefix}
use Rattle.follow_laws.specs.Follows.{Follows}
use Rattle.gimple_ir.specs.declared.types.Module.{Module}
use Rattle.gimple_ir.specs.declared.merged.Merged.{Merged}
use Rattle.gimple_syntax.specs.Reading.{read_of}
use Rattle.resolution_text.specs.declared.resolution.Resolution.{Resolution}
use Rattle.symbol_resolution.specs.Resolving.{resolve_of}
use Rattle.symbol_resolution.specs.Merging.{merged_of, program_of}
use Rattle.link_laws.specs.Laws.{IsLoadable}
use Rattle.whopr_words.specs.Commands.{Spoken, Cc}
use Rattle.whopr_top.specs.Reads.{reads_of, AreHeld, IsOverLimit}
use Rattle.whopr_top.specs.Judgements.{File, Refuses, Gives, Judges, data_of}

-- ---- writes

-- each file is written, one after the other; where there are none, every file stands
abbrev pub WritesAll : List File → Contents → Contents → Type 0
WritesAll [] old new = new ≡ old
WritesAll (file ∷ files) old new = (between : Contents) × Writes file.0 file.1 old between × WritesAll files between new

-- files are written one after the other, up to one of which a prefix is written
abbrev pub CutsShort : List File → Contents → Contents → Type 0
CutsShort [] old new = ⊥
CutsShort (file ∷ files) old new =
    WritesPrefix file.0 file.1 old new ⊎ ((between : Contents) × Writes file.0 file.1 old between × CutsShort files between new)

-- ---- commands

-- the contents that are held within the limit make the command write these files and print this text
pub record IsJudged (limit : ℕ) (command : Spoken) (held : Contents) (written : List File) (text : List ℕ) : Type 0 where
  pub contents : List (List ℕ)
  pub read : AreHeld limit held (reads_of held command) contents
  pub judged : Judges command contents (Gives written text)

-- what the command gives was written
pub record IsDone (limit : ℕ) (command : Spoken) (old new : Contents) : Type 0 where
  pub written : List File
  pub text : List ℕ
  pub judged : IsJudged limit command old written text
  pub writes : WritesAll written old new

-- the text that is held as IN is read to a module, whose object merges alone to a whole program, and OUT holds an image that can be
-- loaded and that does, on every input, what this program does
pub record IsFaithful (input output : List ℕ) (old new : Contents) : Type 0 where
  pub text : List ℕ
  pub image : List ℕ
  pub source : Module
  pub resolution : Resolution
  pub merged : Merged
  pub held : old input ≡ Some text
  pub read : read_of text ≡ Ok source
  pub resolved : resolve_of (data_of source ∷ []) (input ∷ []) ≡ Ok resolution
  pub merges : merged_of (data_of source ∷ []) (input ∷ []) resolution ≡ Ok merged
  pub written : new output ≡ Some image
  pub loads : IsLoadable image
  pub follows : Follows image (program_of (data_of source ∷ []) merged)

-- the image of each text that was compiled follows its program
abbrev pub Faithful : Option Spoken → Contents → Contents → Type 0
Faithful (Some (Cc input output)) old new = IsFaithful input output old new
Faithful _ old new = Unit {0}

-- what the command gives was written in part
pub record IsCutShort (limit : ℕ) (command : Spoken) (old new : Contents) : Type 0 where
  pub written : List File
  pub text : List ℕ
  pub judged : IsJudged limit command old written text
  pub writes : CutsShort written old new

abbrev pub Done : ℕ → Option Spoken → Contents → Contents → Type 0
Done limit command old new = IsSomeAnd command (λ c. IsDone limit c old new)

abbrev pub CutShort : ℕ → Option Spoken → Contents → Contents → Type 0
CutShort limit command old new = IsSomeAnd command (λ c. IsCutShort limit c old new)

-- the contents that are held within the limit make the command be refused with this status and line
pub record IsRefused (limit : ℕ) (command : Spoken) (held : Contents) (status : ℕ) (text : List ℕ) : Type 0 where
  pub contents : List (List ℕ)
  pub read : AreHeld limit held (reads_of held command) contents
  pub judged : Judges command contents (Refuses status text)

abbrev pub Refused : ℕ → ℕ → Contents → Option Spoken → Type 0
Refused status limit held command = IsSomeAnd command (λ c. (text : List ℕ) × IsRefused limit c held status text)

-- a file that is read is too long, or the objects are too large together, or the program passes a limit
abbrev pub IsTooLarge : ℕ → Contents → Option Spoken → Type 0
IsTooLarge limit held command = IsSomeAnd command (λ c. IsOverLimit limit held (reads_of held c)) ⊎ Refused 4 limit held command

-- the command is one that nothing that is held keeps from being done
abbrev pub IsValid : ℕ → Contents → Option Spoken → Type 0
IsValid limit held command = IsSomeAnd command (λ c. (written : List File) × (text : List ℕ) × IsJudged limit c held written text)
