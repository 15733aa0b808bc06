-- The one printed text of a resolution: its ids in lower case without leading zeros, and each line with its newline.
use Rattle.std.specs.Prelude.{ℕ, ◌+◌, ◌<◌, ◌^◌, List, [], ◌∷◌, ◌++◌, length, decimal, All, false}
use Rattle.std.specs.List.{flat_map}
use Rattle.std.specs.Fmt.{digits}
use Rattle.gimple_ir.specs.Names.{IsName}
use Rattle.resolution_text.specs.declared.resolution.Resolved.{Resolved}
use Rattle.resolution_text.specs.declared.resolution.ResolvedFile.{ResolvedFile}
use Rattle.resolution_text.specs.declared.resolution.Resolution.{Resolution}
use Rattle.resolution_text.specs.Fields.{spelling}

-- the line SLOT ID WORD NAME
abbrev pub word_line : ℕ → Resolved → List ℕ
word_line slot w = decimal slot ++ (32 ∷ (digits 16 false w.id ++ (32 ∷ (spelling w.word ++ (32 ∷ (w.name ++ 10 ∷ []))))))

-- the lines of a file's words, from a slot on
abbrev pub word_lines : ℕ → List Resolved → List ℕ
word_lines slot [] = []
word_lines slot (w ∷ ws) = word_line slot w ++ word_lines (slot + 1) ws

-- the line NAME COUNT
abbrev pub header_line : ResolvedFile → List ℕ
header_line file = file.name ++ (32 ∷ (decimal (length file.words) ++ 10 ∷ []))

-- a file's line, and the lines of its words
abbrev pub file_text : ResolvedFile → List ℕ
file_text file = header_line file ++ word_lines 0 file.words

abbrev pub text_of : Resolution → List ℕ
text_of resolution = decimal (length resolution.files) ++ 10 ∷ [] ++ flat_map file_text resolution.files

-- ---- what values of the code are like: names are names, and ids and lengths have at most 64 bits

pub record IsResolved (w : Resolved) : Type 0 where
  pub name : IsName w.name
  pub id : w.id < 2 ^ 64

pub record IsResolvedFile (file : ResolvedFile) : Type 0 where
  pub name : IsName file.name
  pub count : length file.words < 2 ^ 64
  pub words : All IsResolved file.words

pub record IsResolution (resolution : Resolution) : Type 0 where
  pub count : length resolution.files < 2 ^ 64
  pub files : All IsResolvedFile resolution.files
