-- A place in bytes. Its end never moves, so a law on what is read needs no sum of offsets.
use Rattle.std.specs.Prelude.{ℕ, ◌-◌, List, [], ◌∷◌, length, Bool, true, false}

-- the bytes that are left, and where the last of them ends
pub record Cursor : Type 0 where
  pub end : ℕ
  pub rest : List ℕ

abbrev pub at : ℕ → List ℕ → Cursor
at end rest = record { end = end; rest = rest }

-- how many bytes were read
abbrev pub offset_of : Cursor → ℕ
offset_of c = c.end - length c.rest

abbrev pub is_nil : List ℕ → Bool
is_nil [] = true
is_nil (b ∷ bs) = false
