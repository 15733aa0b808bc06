-- The arrays that a link keeps: those that are exported, and those that live functions name.
use Rattle.std.specs.Prelude.{◌≡◌, ◌⊎◌, ℕ, ◌<◌, List, [], ◌∷◌, Bool, false, ◌||◌, ◌&&◌, Some, IsTrue, length, map, nat_eq, slice_get}
use Rattle.std.specs.List.{All, Contains, filter, list_any, range_with_len}
use Rattle.gimple_ir.specs.declared.merged.Merged.{Merged}
use Rattle.gimple_ir.specs.declared.merged.MergedFunction.{MergedFunction}
use Rattle.gimple_ir.specs.declared.merged.MergedArray.{MergedArray}
use Rattle.call_graph.specs.Live.{IsFunction, IsLive, marked}

abbrev pub IsExportedArray : Merged → ℕ → Type 0
IsExportedArray merged a = (x : MergedArray) × (slice_get merged.arrays a ≡ Some x) × IsTrue x.exported

-- a live function names it
abbrev pub IsNamed : Merged → ℕ → Type 0
IsNamed merged a = (n : ℕ) × (f : MergedFunction) × IsLive merged n × IsFunction merged n f × Contains f.summary.arrays a

abbrev pub IsKept : Merged → ℕ → Type 0
IsKept merged a = IsExportedArray merged a ⊎ IsNamed merged a

-- each array that is named is one of the program
abbrev pub HasArrays : Merged → Type 0
HasArrays merged = All (λ f. All (λ a. a < length merged.arrays) f.summary.arrays) merged.functions

-- ---- the same as a list, where the live functions are marked

abbrev pub names : MergedFunction → ℕ → Bool
names f a = list_any (λ b. nat_eq b a) f.summary.arrays

-- a function that is marked names it
abbrev pub is_named : List Bool → List MergedFunction → ℕ → Bool
is_named [] fs a = false
is_named (b ∷ bs) [] a = false
is_named (b ∷ bs) (f ∷ fs) a = (b && names f a) || is_named bs fs a

abbrev pub is_kept : Merged → List Bool → ℕ → Bool
is_kept merged live a = marked (map (λ x. x.exported) merged.arrays) a || is_named live merged.functions a

-- the kept arrays, ascending
abbrev pub kept_of : Merged → List Bool → List ℕ
kept_of merged live = filter (is_kept merged live) (range_with_len 0 (length merged.arrays))
