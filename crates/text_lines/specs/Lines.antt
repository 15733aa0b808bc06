-- The lines of a text that are left, and the number of the next one, counted from 1.
use Rattle.std.specs.Prelude.{ℕ, List}
use Rattle.cursors.specs.Lines.{lines_of}

pub record Lines : Type 0 where
  pub number : ℕ
  pub rest : List (List ℕ)

-- all lines of a text
abbrev pub lines_in : List ℕ → Lines
lines_in text = record { number = 1; rest = lines_of text }
