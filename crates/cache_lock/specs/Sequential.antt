-- Histories of an object of one thread: which are legal, what state they lead to, and the entries at some places of one.
-- An object says which entries are possible in a state, and the state after each.
use Rattle.std.specs.Prelude.{ℕ, zero, suc, List, [], ◌∷◌, ◌++◌}

module _ {S E : Type 0} (possible : S → E → Type 0) (after : S → E → S) where
  -- a history is legal from a state where each entry is possible in the state after those before it
  abbrev pub IsLegal : S → List E → Type 0
  IsLegal s [] = Unit {0}
  IsLegal s (e ∷ es) = possible s e × IsLegal (after s e) es

module _ {S E : Type 0} (after : S → E → S) where
  -- the state after all entries of a history
  abbrev pub state_after : S → List E → S
  state_after s [] = s
  state_after s (e ∷ es) = state_after (after s e) es

module _ {E : Type 0} where
  -- the entry at a place, counted from 0, or none past the end
  abbrev pub entry_at : List E → ℕ → List E
  entry_at [] k = []
  entry_at (e ∷ es) zero = e ∷ []
  entry_at (e ∷ es) (suc k) = entry_at es k

  -- the entries at these places
  abbrev pub entries_at : List E → List ℕ → List E
  entries_at es [] = []
  entries_at es (k ∷ ks) = entry_at es k ++ entries_at es ks
