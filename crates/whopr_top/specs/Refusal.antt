-- The status and the line of a refusal, and how the text of a command that was done is told.
use Rattle.std.specs.Prelude.{◌≡◌, ◌⊎◌, ℕ, List, [], ◌∷◌, ◌++◌, codes, decimal, Result, Ok, Err, Vec}
use Rattle.std.specs.declared.alloc.Global.{Global}
use Rattle.outer_files.specs.Outside.{Known}
use Rattle.whopr_top.specs.declared.refusal.Refusal.{Refusal}
use Rattle.whopr_top.specs.declared.refusal.Refusal.TheVariants.{NoCommand, Object, TooLong, TooMuch, Limit, Read, ReadOf, Write, Memory, Resolution, Text, Jobs, Image}
use Rattle.whopr_top.specs.Lines.{line, text_line, object_line, limit_line, resolution_line, batch_bytes_line, jobs_line}
use Rattle.whopr_top.specs.Answers.{file_bytes_line, Puts}

abbrev pub status_of : Refusal → ℕ
status_of NoCommand = 2
status_of (Object number fault) = 3
status_of TooLong = 4
status_of TooMuch = 4
status_of (Limit passed) = 4
status_of (Read name) = 5
status_of (ReadOf name) = 5
status_of (Write name) = 6
status_of Memory = 7
status_of (Resolution kind place) = 8
status_of (Text at kind) = 9
status_of (Jobs number) = 10
status_of (Image offset) = 11

-- the line of a file that could not be read
abbrev pub read_line : List ℕ → List ℕ
read_line name = line (codes "5 read " ++ name)

abbrev pub refusal_line : Refusal → List ℕ
refusal_line NoCommand = line (codes "2 words")
refusal_line (Object number fault) = object_line number fault
refusal_line TooLong = file_bytes_line
refusal_line TooMuch = batch_bytes_line
refusal_line (Limit passed) = limit_line passed
refusal_line (Read name) = read_line name.now
refusal_line (ReadOf name) = read_line name
refusal_line (Write name) = line (codes "6 write " ++ name.now)
refusal_line Memory = line (codes "7 memory")
refusal_line (Resolution kind place) = resolution_line kind place
refusal_line (Text at kind) = text_line at kind
refusal_line (Jobs number) = jobs_line number
refusal_line (Image offset) = line (codes "11 image " ++ decimal offset)

-- the status of a command that was done or refused, and the text that goes with it
abbrev pub answer_of : Result (Vec ℕ Global) Refusal → ℕ
answer_of (Ok text) = 0
answer_of (Err refusal) = status_of refusal

abbrev pub text_of : Result (Vec ℕ Global) Refusal → List ℕ
text_of (Ok text) = text.items
text_of (Err refusal) = refusal_line refusal

-- the text was put, or the line for want of memory
abbrev pub Reports : List ℕ → ℕ → ℕ → Known → Known → Type 0
Reports text status result old new = Puts text status result old new ⊎ Puts (refusal_line Memory) 7 result old new

-- the text of a command that was done was put; where it is empty, nothing was
abbrev pub Tells : List ℕ → ℕ → Known → Known → Type 0
Tells [] result old new = (result ≡ 0) × (new ≡ old)
Tells (byte ∷ text) result old new = Puts (byte ∷ text) 0 result old new
