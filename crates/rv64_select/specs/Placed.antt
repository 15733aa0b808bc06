-- The map from names to their places in a list.
use Rattle.std.specs.Prelude.{◌≡◌, ℕ, List, position}
use Rattle.std.specs.Str.{bytes_eq}
use Rattle.std.specs.Ordering.{nat_cmp}
use Rattle.std.specs.Cmp.Lexicographic.{slice_cmp}
use Rattle.std.specs.BTreeMap.{BTreeMap, get_by}
use denote.Ref.{Bor}

-- each name has the place where it first stands, and nothing else has one
abbrev pub IsPlaced : BTreeMap (Bor (List ℕ)) ℕ → List (List ℕ) → Type 0
IsPlaced places names = (q : List ℕ) → get_by (λ k. slice_cmp nat_cmp q k.now) places ≡ position (bytes_eq q) names
