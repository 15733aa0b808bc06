-- The tables of a function: the places of its labels, and the first component of each variable.
use Rattle.std.specs.Prelude.{ℕ, ◌+◌, ◌<◌, ◌≡◌, List, length, drop, slice_index_or, slice_set}
use Rattle.gimple_ir.specs.declared.types.Variable.{Variable}
use Rattle.gimple_ir.specs.declared.types.Statement.{Statement}
use Rattle.gimple_ir.specs.declared.types.Statement.TheVariants.{Label}
use Rattle.gimple_meaning.specs.Source.{place_of, first_component}

-- the table has each label's place, of labels from the place `from` on
abbrev pub ArePlaces : List Statement → ℕ → List ℕ → Type 0
ArePlaces body from places = (l d : ℕ) → l < length places → slice_index_or places l d ≡ from + place_of (drop from body) l

abbrev pub noted : List ℕ → Statement → ℕ → List ℕ
noted places (Label l) place = slice_set places l place
noted places _ place = places

abbrev pub AreFirsts : List Variable → List ℕ → Type 0
AreFirsts variables firsts = (v d : ℕ) → v < length firsts → slice_index_or firsts v d ≡ first_component variables v
