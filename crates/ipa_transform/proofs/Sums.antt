-- Components one after the other, and how many stand before each variable.
use Rattle.std.proofs.Common.{◌≡◌, ℕ, zero, suc, ◌+◌, ◌-◌, ◌<◌, ◌≤◌, List, [], ◌∷◌, ◌++◌, length, get_or, take, drop, refl, sym, ap, ◌∙◌, append_assoc, arith, Some}
use Rattle.std.specs.Prelude.{slice_get, sum_by}
use Rattle.std.specs.Option.{option_map_or}
use Rattle.std.proofs.lemmas.List.Sums.{sum_by-cons}
use Rattle.gimple_ir.specs.declared.types.ScalarType.{ScalarType}
use Rattle.gimple_ir.specs.declared.types.Operand.{Operand}
use Rattle.gimple_ir.specs.declared.types.Operand.TheVariants.{Component}
use Rattle.gimple_ir.specs.declared.versioned.Pair.{Pair}
use Rattle.gimple_meaning.specs.Source.{components_from, pairs_from}
use Rattle.ipa_transform.specs.Versioned.{first_component, field_count, at_place}
use Rattle.ipa_transform.specs.Members.{sums_from}

-- ---- one more

pub one_more : {A : Type 0} (front : List A) (x : A) (rest whole : List A) → front ++ (x ∷ rest) ≡ whole → (front ++ x ∷ []) ++ rest ≡ whole
one_more front x rest whole h = append_assoc front (x ∷ []) rest ∙ h

pub next_component : (first field count : ℕ) → field < count
    → components_from (first + field) (count - field) ≡ Component (first + field) ∷ components_from (first + (field + 1)) (count - (field + 1))
next_component first field count h =
    let left : count - field ≡ suc (count - (field + 1)) = omega (arith, h) in
    let on : first + field + 1 ≡ first + (field + 1) = omega arith in
    ap (components_from (first + field)) left ∙ ap (λ n. Component (first + field) ∷ components_from n (count - (field + 1))) on

pub next_pair : (to from field count : ℕ) → field < count
    → pairs_from (to + field) (from + field) (count - field)
    ≡ record { to = to + field; from = Component (from + field) } ∷ pairs_from (to + (field + 1)) (from + (field + 1)) (count - (field + 1))
next_pair to from field count h =
    let left : count - field ≡ suc (count - (field + 1)) = omega (arith, h) in
    let target : to + field + 1 ≡ to + (field + 1) = omega arith in
    let source : from + field + 1 ≡ from + (field + 1) = omega arith in
    ap (pairs_from (to + field) (from + field)) left
    ∙ ap (λ n. record { to = to + field; from = Component (from + field) } ∷ pairs_from n (from + field + 1) (count - (field + 1))) target
    ∙ ap (λ n. record { to = to + field; from = Component (from + field) } ∷ pairs_from (to + (field + 1)) n (count - (field + 1))) source

pub at_past : {A : Type 0} (xs : List A) (k : ℕ) → length xs ≤ k → at_place xs k ≡ []
at_past [] k h = refl
at_past (x ∷ xs) zero h = absurd (omega (arith, h))
at_past (x ∷ xs) (suc k) h = at_past xs k (omega (arith, h))

-- ---- before each variable

abbrev count : List ScalarType → ℕ
count types = length types

pub field_count-within : (variables : List (List ScalarType)) (v : ℕ) → first_component variables v + field_count variables v ≤ sum_by count variables
field_count-within [] zero = omega arith
field_count-within [] (suc v) = omega arith
field_count-within (types ∷ more) zero = omega (arith, sum_by-cons count types more)
field_count-within (types ∷ more) (suc v) =
    omega (arith, sum_by-cons count types more, sum_by-cons count types (take v more), field_count-within more v)

pub field_count-at : (variables : List (List ScalarType)) (v : ℕ) (types : List ScalarType) → slice_get variables v ≡ Some types → field_count variables v ≡ length types
field_count-at variables v types h = ap (λ o. option_map_or count o 0) h

pub field_count-past : (variables : List (List ScalarType)) (v : ℕ) → length variables ≤ v → field_count variables v ≡ 0
field_count-past [] v h = refl
field_count-past (types ∷ more) zero h = absurd (omega (arith, h))
field_count-past (types ∷ more) (suc v) h = field_count-past more v (omega (arith, h))

pub length-sums_from : (n : ℕ) (variables : List (List ScalarType)) → length (sums_from n variables) ≡ length variables + 1
length-sums_from n [] = refl
length-sums_from n (types ∷ more) = omega (arith, length-sums_from (n + length types) more)

pub sums_from-at : (n : ℕ) (variables : List (List ScalarType)) (v d : ℕ) → v ≤ length variables → get_or (sums_from n variables) v d ≡ n + first_component variables v
sums_from-at n [] zero d h = omega arith
sums_from-at n [] (suc v) d h = absurd (omega (arith, h))
sums_from-at n (types ∷ more) zero d h = omega arith
sums_from-at n (types ∷ more) (suc v) d h =
    omega (arith, sums_from-at (n + length types) more v d (omega (arith, h)), sum_by-cons count types (take v more))

pub first_component-past : (variables : List (List ScalarType)) (v : ℕ) → length variables ≤ v → first_component variables v ≡ first_component variables (length variables)
first_component-past [] zero h = refl
first_component-past [] (suc v) h = refl
first_component-past (types ∷ more) zero h = absurd (omega (arith, h))
first_component-past (types ∷ more) (suc v) h =
    omega (arith, first_component-past more v (omega (arith, h)), sum_by-cons count types (take v more), sum_by-cons count types (take (length more) more))
