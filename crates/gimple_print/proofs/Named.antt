-- A name in the list of the names of some things.
use Rattle.std.proofs.Common.{◌≡◌, ℕ, zero, suc, List, [], ◌∷◌, map, refl}
use Rattle.std.specs.Prelude.{slice_get}
use Rattle.std.specs.Option.{option_map_or}
use Rattle.gimple_print.specs.Statements.{name_at}

-- it is the name of the thing at that place
pub name_at_map : {X : Type 0} (f : X → List ℕ) (xs : List X) (n : ℕ) → name_at (map f xs) n ≡ option_map_or f (slice_get xs n) []
name_at_map f [] n = refl
name_at_map f (x ∷ xs) zero = refl
name_at_map f (x ∷ xs) (suc n) = name_at_map f xs n
