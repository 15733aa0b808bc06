-- How many components the variables have before one of them.
use Rattle.std.proofs.Common.{◌≡◌, ◌+◌, ◌<◌, ◌≤◌, ℕ, zero, suc, List, [], ◌∷◌, length, get_or, take, refl, ap, arith, Some}
use Rattle.std.specs.Prelude.{slice_get}
use Rattle.std.specs.Option.{option_map_or}
use Rattle.std.proofs.lemmas.List.{take_all}
use Rattle.std.proofs.lemmas.List.Sums.{sum_by-cons}
use Rattle.std.proofs.lemmas.List.FromFn.{length-map-range_with_len, get_or-map-range_with_len}
use Rattle.gimple_ir.specs.declared.types.Variable.{Variable}
use Rattle.gimple_ir.specs.CodeBound.{components_in, components_of}
use Rattle.func_summary.specs.Tables.{firsts_of}

abbrev count : Variable → ℕ
count v = length v.types

-- those of the variables before it and its own are no more than all
pub components_of-within : (variables : List Variable) (v : ℕ) → components_in (take v variables) + components_of variables v ≤ components_in variables
components_of-within [] zero = omega arith
components_of-within [] (suc v) = omega arith
components_of-within (w ∷ ws) zero = omega (arith, sum_by-cons count w ws)
components_of-within (w ∷ ws) (suc v) =
    omega (arith, sum_by-cons count w ws, sum_by-cons count w (take v ws), components_of-within ws v)

pub components_of-small : (variables : List Variable) (v : ℕ) → components_in variables ≤ 1024 → components_of variables v ≤ 1024
components_of-small variables v h = omega (arith, h, components_of-within variables v)

pub before-small : (variables : List Variable) (v : ℕ) → components_in variables ≤ 1024 → components_in (take v variables) ≤ 1024
before-small variables v h = omega (arith, h, components_of-within variables v)

pub components_of-at : (variables : List Variable) (v : ℕ) (w : Variable) → slice_get variables v ≡ Some w → components_of variables v ≡ length w.types
components_of-at variables v w h = ap (λ o. option_map_or (λ x. length x.types) o 0) h

pub components_of-past : (variables : List Variable) (v : ℕ) → length variables ≤ v → components_of variables v ≡ 0
components_of-past [] v h = refl
components_of-past (w ∷ ws) zero h = absurd (omega (arith, h))
components_of-past (w ∷ ws) (suc v) h = components_of-past ws v (omega (arith, h))

pub length-firsts_of : (variables : List Variable) → length (firsts_of variables) ≡ length variables
length-firsts_of variables = length-map-range_with_len (λ w. components_in (take w variables)) 0 (length variables)

pub firsts_of-at : (variables : List Variable) (v d : ℕ) → v < length variables → get_or (firsts_of variables) v d ≡ components_in (take v variables)
firsts_of-at variables v d h = get_or-map-range_with_len (λ w. components_in (take w variables)) 0 (length variables) v v d h (omega arith)

pub firsts_of-past : (variables : List Variable) (v : ℕ) → length variables ≤ v → components_in (take v variables) ≡ components_in variables
firsts_of-past variables v h = ap components_in (take_all v variables h)
