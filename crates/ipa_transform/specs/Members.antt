-- What is asked of a member, and what the code keeps of one.
use Rattle.std.specs.Prelude.{◌≡◌, ◌≤◌, ◌<◌, ◌+◌, ◌^◌, ℕ, List, [], ◌∷◌, length, map, sum_by}
use Rattle.gimple_ir.specs.declared.types.ScalarType.{ScalarType}
use Rattle.gimple_ir.specs.declared.unit.ArrayUse.{ArrayUse}
use Rattle.gimple_ir.specs.declared.unit.Member.{Member}

-- no array's number is above that of the next
abbrev pub Ascends : List ArrayUse → Type 0
Ascends [] = Unit {0}
Ascends (u ∷ []) = Unit {0}
Ascends (u ∷ w ∷ us) = (u.local < w.local) × Ascends (w ∷ us)

-- within the limits of a function, and with arrays in the order of their numbers
pub record IsMember (m : Member) : Type 0 where
  pub components : sum_by length m.variables ≤ 1024
  pub statements : length m.body ≤ 8192
  pub arrays : length m.arrays < 2 ^ 32
  pub ascends : Ascends m.arrays

-- how many components stand before each variable, n before the first, and last before what would come next
abbrev pub sums_from : ℕ → List (List ScalarType) → List ℕ
sums_from n [] = n ∷ []
sums_from n (types ∷ more) = n ∷ sums_from (n + length types) more
