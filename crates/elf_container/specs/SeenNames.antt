-- The map of the names seen so far, as a set.
use Rattle.std.specs.Prelude.{ℕ, List, Bool, is_some}
use Rattle.std.specs.Ordering.{nat_cmp}
use Rattle.std.specs.Cmp.Lexicographic.{slice_cmp}
use Rattle.std.specs.BTreeMap.{BTreeMap, get_by}
use denote.Ref.{Bor}

-- whether a name with these bytes was seen
abbrev pub holds : BTreeMap (Bor (List ℕ)) (Unit {0}) → List ℕ → Bool
holds seen bytes = is_some (get_by (λ k. slice_cmp nat_cmp bytes k.now) seen)
