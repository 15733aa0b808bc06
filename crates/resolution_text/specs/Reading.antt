-- The resolution that a text spells, or the number of its first bad line. The text has a line FILES, and for each file a
-- line NAME COUNT and as many lines SLOT ID WORD NAME with the slots 0, 1, .. in order; nothing follows.
use Rattle.std.specs.Prelude.{ℕ, ◌==◌, List, [], ◌∷◌, Option, Some, None, Result, Ok, Err, Bool, true, false}
use Rattle.cursors.specs.Decimals.{decimal_value}
use Rattle.text_lines.specs.Lines.{Lines, lines_in}
use Rattle.text_lines.specs.Words.{words_of, name_of}
use Rattle.text_lines.specs.Reading.{line_by, ◌then◌, counted, at_end}
use Rattle.resolution_text.specs.declared.resolution.Resolved.{Resolved}
use Rattle.resolution_text.specs.declared.resolution.ResolvedFile.{ResolvedFile}
use Rattle.resolution_text.specs.declared.resolution.Resolution.{Resolution}
use Rattle.resolution_text.specs.declared.fault.ResolutionError.{ResolutionError}
use Rattle.resolution_text.specs.declared.fault.ResolutionError.TheVariants.{AtLine}
use Rattle.resolution_text.specs.declared.fault.ResolutionKind.TheVariants.{BadLine}
use Rattle.resolution_text.specs.Fields.{id_of, word_of}

infixl 10 ◌>>=◌
abbrev pub ◌>>=◌ : {A B : Type 0} → Option A → (A → Option B) → Option B
None >>= f = None
(Some a) >>= f = f a

abbrev pub when : {A : Type 0} → Bool → Option A → Option A
when true a = a
when false a = None

abbrev pub is_number : ℕ → Option ℕ → Bool
is_number n None = false
is_number n (Some m) = m == n

abbrev pub resolved_of : ℕ → List (List ℕ) → Option Resolved
resolved_of slot (at ∷ digits ∷ spelled ∷ called ∷ []) = when (is_number slot (decimal_value at)) (do
  id ← id_of digits
  word ← word_of spelled
  name ← name_of called
  Some (record { word = word; name = name; id = id }))
resolved_of slot _ = None

-- the line SLOT ID WORD NAME
abbrev pub resolved_at : ℕ → List ℕ → Option Resolved
resolved_at slot line = resolved_of slot (words_of line)

abbrev pub header_of : List (List ℕ) → Option (List ℕ × ℕ)
header_of (called ∷ count ∷ []) = do
  count ← decimal_value count
  name ← name_of called
  Some (name, count)
header_of _ = None

-- the line NAME COUNT
abbrev pub header_at : List ℕ → Option (List ℕ × ℕ)
header_at line = header_of (words_of line)

abbrev pub resolved_by : ℕ → Lines → Result (Resolved × Lines) ℕ
resolved_by slot lines = line_by (resolved_at slot) lines

abbrev pub file_by : Lines → Result (ResolvedFile × Lines) ℕ
file_by lines =
    line_by header_at lines
    then (λ header. counted resolved_by header.0.1 0 header.1
    then (λ words. Ok (record { name = header.0.0; words = words.0 }, words.1)))

-- a file is read alike at each place
abbrev pub file_at : ℕ → Lines → Result (ResolvedFile × Lines) ℕ
file_at place lines = file_by lines

abbrev pub resolution_by : Lines → Result Resolution ℕ
resolution_by lines =
    line_by decimal_value lines
    then (λ count. counted file_at count.0 0 count.1
    then (λ files. at_end (record { files = files.0 }) files.1))

abbrev pub with_kind : Result Resolution ℕ → Result Resolution ResolutionError
with_kind (Ok r) = Ok r
with_kind (Err line) = Err (AtLine BadLine line)

-- the resolution that a text spells, or its first bad line; a missing line is the one behind the last
abbrev pub resolution_in : List ℕ → Result Resolution ResolutionError
resolution_in text = with_kind (resolution_by (lines_in text))
