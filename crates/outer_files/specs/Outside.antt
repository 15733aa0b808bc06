-- What a store of files and a sink hold, what a call does to that, and when a count of faults has risen. Contents are a
-- function from names to bytes, so that "the name holds" and "every other file stands" are said as they are spoken.
use Rattle.std.specs.Prelude.{◌≡◌, ◌≢◌, ℕ, ◌+◌, ◌-◌, ◌^◌, ◌<◌, ◌≤◌, min, List, [], ◌∷◌, ◌++◌, length, take, Option, None, Some, unwrap_or}

-- what a store holds: the bytes of each name that is held
abbrev pub Contents : Type 0
Contents = List ℕ → Option (List ℕ)

-- P of what was known before and what is known now. Whether it is known doesn't change.
abbrev pub WhereTold : {A : Type 0} → Option A → Option A → (A → A → Type 0) → Type 0
WhereTold None None P = Unit {0}
WhereTold None (Some new) P = ⊥
WhereTold (Some old) None P = ⊥
WhereTold (Some old) (Some new) P = P old new

-- each name but this one is as before
abbrev pub OthersStand : List ℕ → Contents → Contents → Type 0
OthersStand name old new = (other : List ℕ) → other ≢ name → new other ≡ old other

-- the name holds exactly the bytes, and every other file stands
pub record Writes (name bytes : List ℕ) (old new : Contents) : Type 0 where
  pub written : new name ≡ Some bytes
  pub others : OthersStand name old new

-- the name holds some prefix of the bytes, and every other file stands; a name that is not held counts as holding nothing
pub record WritesPrefix (name bytes : List ℕ) (old new : Contents) : Type 0 where
  pub prefix : (n : ℕ) × (unwrap_or (new name) [] ≡ take n bytes)
  pub others : OthersStand name old new

-- the piece was taken
abbrev pub Takes : List ℕ → List ℕ → List ℕ → Type 0
Takes piece old new = new ≡ old ++ piece

-- some prefix of the piece was taken
abbrev pub TakesPrefix : List ℕ → List ℕ → List ℕ → Type 0
TakesPrefix piece old new = (n : ℕ) × (new ≡ old ++ take n piece)

-- the name is held with more bytes than the limit
abbrev pub IsLonger : ℕ → Option (List ℕ) → Type 0
IsLonger limit file = (bytes : List ℕ) × (file ≡ Some bytes) × (limit < length bytes)

-- one more, up to the last value of a count
abbrev pub one_more : ℕ → ℕ
one_more count = min (count + 1) (2 ^ 64 - 1)

-- A count has risen. One that stands at its last value counts as having risen.
abbrev pub Rose : ℕ → ℕ → Type 0
Rose before now = min (before + 1) (2 ^ 64 - 1) ≤ now

-- A count has risen at least n times, unless it stands at its last value.
abbrev pub RoseBy : ℕ → ℕ → ℕ → Type 0
RoseBy n before now = min (before + n) (2 ^ 64 - 1) ≤ now

-- What is known of a sink: the bytes taken and the pieces put, where it tells them, how many puts there were and how many
-- faults. The count of puts stands still at its last value too.
pub record Known : Type 0 where
  pub taken : Option (List ℕ)
  pub pieces : Option (List (List ℕ))
  pub puts : ℕ
  pub faults : ℕ

-- the piece is the last of those put
abbrev pub EndsWith : List ℕ → List (List ℕ) → List (List ℕ) → Type 0
EndsWith piece old new = new ≡ old ++ piece ∷ []

-- one put, of this piece, which was taken
pub record TookPiece (piece : List ℕ) (old new : Known) : Type 0 where
  pub taken : WhereTold old.taken new.taken (Takes piece)
  pub pieces : WhereTold old.pieces new.pieces (EndsWith piece)
  pub puts : new.puts ≡ one_more old.puts
  pub never_falls : old.faults ≤ new.faults

-- one put, of this piece, at which the sink failed; it took some prefix
pub record FailedPiece (piece : List ℕ) (old new : Known) : Type 0 where
  pub taken : WhereTold old.taken new.taken (TakesPrefix piece)
  pub pieces : WhereTold old.pieces new.pieces (EndsWith piece)
  pub puts : new.puts ≡ one_more old.puts
  pub rose : Rose old.faults new.faults

-- one put, of a piece for which there was no memory; nothing of it is kept
pub record LackedMemory (old new : Known) : Type 0 where
  pub taken : new.taken ≡ old.taken
  pub pieces : new.pieces ≡ old.pieces
  pub puts : new.puts ≡ one_more old.puts
  pub faults : new.faults ≡ old.faults
