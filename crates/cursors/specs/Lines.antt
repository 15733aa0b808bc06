-- The lines of a text. A line ends with a newline, which the last may lack; all other bytes are bytes of lines.
use Rattle.std.specs.Prelude.{◌≡◌, ◌≢◌, ◌⊎◌, ◌==◌, ℕ, List, [], ◌∷◌, ◌++◌, Option, Some, None, All, if◌then◌else◌}

abbrev pub IsNoNewline : ℕ → Type 0
IsNoNewline byte = byte ≢ 10

-- A text that isn't at its end goes on with a line of no newlines, and then a newline or the end.
abbrev pub IsLineAt : List ℕ → List ℕ → Option (List ℕ) → Type 0
IsLineAt old new None = (old ≡ []) × (new ≡ old)
IsLineAt old new (Some line) = (old ≢ []) × All IsNoNewline line × ((old ≡ line ++ 10 ∷ new) ⊎ ((old ≡ line) × (new ≡ [])))

-- a byte in front of the first line
abbrev pub onto_first : ℕ → List (List ℕ) → List (List ℕ)
onto_first byte [] = (byte ∷ []) ∷ []
onto_first byte (line ∷ lines) = (byte ∷ line) ∷ lines

-- all lines, without their newlines
abbrev pub lines_of : List ℕ → List (List ℕ)
lines_of [] = []
lines_of (byte ∷ bytes) = if byte == 10 then [] ∷ lines_of bytes else onto_first byte (lines_of bytes)
