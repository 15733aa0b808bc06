-- The numbers of names in a map.
use Rattle.std.specs.Prelude.{◌≡◌, ℕ, List, Option, Some, None, min}
use Rattle.std.specs.List.{position}
use Rattle.std.specs.Option.{option_map}
use Rattle.std.specs.Str.{bytes_eq}
use Rattle.std.specs.HashMap.{HashMap, get_by}
use Rattle.std.specs.declared.hash.BuildHasherDefault.{BuildHasherDefault}
use Rattle.std.specs.declared.hash.FoldHasher.{FoldHasher}
use denote.Ref.{Bor}
use Rattle.gimple_syntax.specs.Numbers.{nothing}

abbrev pub Numbers : Type 0
Numbers = HashMap (Bor (List ℕ)) ℕ (BuildHasherDefault FoldHasher)

-- the number that the map has for a name with these bytes
abbrev pub number_in : Numbers → List ℕ → Option ℕ
number_in numbers q = get_by (λ k. bytes_eq q k.now) numbers

-- the first place of the name
abbrev pub first_number : List (List ℕ) → List ℕ → Option ℕ
first_number names q = option_map (λ place. min place nothing) (position (bytes_eq q) names)

abbrev pub or_else : Option ℕ → Option ℕ → Option ℕ
or_else None other = other
or_else (Some n) other = Some n

-- the map has each name's first place
unfoldable pub Finds : List (List ℕ) → Numbers → Type 0
Finds names numbers = (q : List ℕ) → number_in numbers q ≡ first_number names q
