-- The arrays that are kept, some of the merged ones and each once, take no more bytes than all merged arrays.
use Rattle.std.proofs.Common.{◌≡◌, ℕ, zero, suc, ◌+◌, ◌<◌, ◌≤◌, Bool, true, false, cond, List, [], ◌∷◌, length, get_or, drop, filter, Option, Some, None, refl, ap, subst, arith}
use Rattle.std.specs.Prelude.{All, not, slice_get, slice_index}
use Rattle.std.specs.List.{sum_by, AllByRecursion}
use Rattle.std.specs.List.Sorted.{IsStrictlyIncreasing}
use Rattle.std.specs.Option.{option_map_or}
use Rattle.std.proofs.lemmas.Option.{slice_get-get_or}
use Rattle.std.proofs.lemmas.List.Elements.{recursion_from_All}
use Rattle.std.proofs.lemmas.List.Sums.{sum_by-drop_more, sum_by-take-drop}
use Rattle.gimple_ir.specs.declared.merged.Merged.{Merged}
use Rattle.gimple_ir.specs.declared.merged.MergedArray.{MergedArray}
use Rattle.final_link.specs.Arrays.{array_size, size_of, is_zeroed, stored_arrays, zeroed_arrays}
use Rattle.final_link.specs.Symbols.{end_of, arrays_in_order}
use Rattle.final_link.proofs.PlaceLaws.{end_append}

-- ---- places from anywhere

pub end_from : {X : Type 0} (size : X → ℕ) (at : ℕ) (xs : List X) → end_of size at xs ≡ at + end_of size 0 xs
end_from size at [] = omega arith
end_from size at (x ∷ xs) = omega (arith, end_from size (at + size x) xs, end_from size (0 + size x) xs)

-- ---- the arrays of both kinds

by_kind : (size : ℕ → ℕ) (b : Bool) (k : ℕ) (xs ys all : List ℕ) → end_of size 0 xs + end_of size 0 ys ≡ end_of size 0 all
    → end_of size 0 (cond (not b) (k ∷ xs) xs) + end_of size 0 (cond b (k ∷ ys) ys) ≡ end_of size 0 (k ∷ all)
by_kind size true k xs ys all h = omega (arith, h, end_from size (0 + size k) ys, end_from size (0 + size k) all)
by_kind size false k xs ys all h = omega (arith, h, end_from size (0 + size k) xs, end_from size (0 + size k) all)

both_kinds : (size : ℕ → ℕ) (p : ℕ → Bool) (ks : List ℕ) → end_of size 0 (filter (λ k. not (p k)) ks) + end_of size 0 (filter p ks) ≡ end_of size 0 ks
both_kinds size p [] = refl
both_kinds size p (k ∷ ks) = by_kind size (p k) k (filter (λ k. not (p k)) ks) (filter p ks) ks (both_kinds size p ks)

-- ---- ascending numbers

-- ascending, from a number on
abbrev Ascends : ℕ → List ℕ → Type 0
Ascends least [] = Unit {0}
Ascends least (k ∷ ks) = (least ≤ k) × Ascends (k + 1) ks

ascends : (least : ℕ) (ks : List ℕ) → IsStrictlyIncreasing ks → (0 < length ks → least ≤ slice_index ks 0) → Ascends least ks
ascends least [] h first = tt
ascends least (k ∷ ks) h first = (
  first (omega arith),
  ascends (k + 1) ks (λ j lt. let e : suc j + 1 ≡ suc (j + 1) = omega arith in subst (λ n. slice_index (k ∷ ks) (suc j) < slice_index (k ∷ ks) n) e (h (suc j) (omega arith))) (λ some. let next : k < slice_index ks 0 = h 0 (omega arith) in omega (arith, next)),
)

none_there : {X : Type 0} (xs : List X) (k : ℕ) → slice_get xs k ≡ None → k < length xs → ⊥
none_there [] k e lt = absurd (omega arith)
none_there (x ∷ xs) zero e lt = cc
none_there (x ∷ xs) (suc k) e lt = none_there xs k e (omega arith)

size_at : (merged : Merged) (k : ℕ) (d : MergedArray) → k < length merged.arrays → size_of merged k ≡ array_size (get_or merged.arrays k d).item
size_at merged k d lt = ap (λ (x : Option MergedArray). option_map_or (λ (a : MergedArray). array_size a.item) x 0) (slice_get-get_or merged.arrays k d lt)

-- what is left from a number on is no more than what is left from an earlier one
left_less : {X : Type 0} (f : X → ℕ) (xs : List X) (b k : ℕ) → b ≤ k → sum_by f (drop k xs) ≤ sum_by f (drop b xs)
left_less f xs zero k le = omega (arith, sum_by-take-drop f xs k)
left_less f xs (suc b) zero le = absurd (omega arith)
left_less f [] (suc b) (suc k) le = omega arith
left_less f (x ∷ xs) (suc b) (suc k) le = left_less f xs b k (omega arith)

-- ascending numbers of arrays take no more than the arrays from the least of them on
some_arrays : (merged : Merged) (least : ℕ) (ks : List ℕ) → Ascends least ks → AllByRecursion (λ k. k < length merged.arrays) ks
    → end_of (size_of merged) 0 ks ≤ sum_by (λ a. array_size a.item) (drop least merged.arrays)
some_arrays merged least [] asc lt = omega arith
some_arrays merged least (k ∷ ks) asc lt = with_array merged least k ks (slice_get merged.arrays k) refl asc lt (some_arrays merged (k + 1) ks asc.1 lt.1)
  where
    with_array : (merged : Merged) (least k : ℕ) (ks : List ℕ) (a : Option MergedArray) → slice_get merged.arrays k ≡ a → Ascends least (k ∷ ks) → AllByRecursion (λ k. k < length merged.arrays) (k ∷ ks)
        → end_of (size_of merged) 0 ks ≤ sum_by (λ a. array_size a.item) (drop (k + 1) merged.arrays) → end_of (size_of merged) 0 (k ∷ ks) ≤ sum_by (λ a. array_size a.item) (drop least merged.arrays)
    with_array merged least k ks None e asc lt more = absurd (none_there merged.arrays k e lt.0)
    with_array merged least k ks (Some a) e asc lt more =
        omega (
          arith,
          more,
          end_from (size_of merged) (0 + size_of merged k) ks,
          size_at merged k a lt.0,
          sum_by-drop_more (λ (x : MergedArray). array_size x.item) merged.arrays k a lt.0,
          left_less (λ (x : MergedArray). array_size x.item) merged.arrays least k asc.0,
        )

pub kept_small : (merged : Merged) (kept : List ℕ) → IsStrictlyIncreasing kept → All (λ k. k < length merged.arrays) kept
    → end_of (size_of merged) 0 (stored_arrays merged kept) + end_of (size_of merged) 0 (zeroed_arrays merged kept) ≤ sum_by (λ a. array_size a.item) merged.arrays
kept_small merged kept asc lt =
    omega (
      arith,
      both_kinds (size_of merged) (is_zeroed merged) kept,
      some_arrays merged 0 kept (ascends 0 kept asc (λ some. omega arith)) (recursion_from_All (λ k. k < length merged.arrays) kept lt),
    )

-- the end of all kept arrays, from a place on
pub kept_end : (merged : Merged) (kept : List ℕ) (at : ℕ) → end_of (size_of merged) at (arrays_in_order merged kept)
    ≡ at + (end_of (size_of merged) 0 (stored_arrays merged kept) + end_of (size_of merged) 0 (zeroed_arrays merged kept))
kept_end merged kept at =
    let size = size_of merged in
    omega (
      arith,
      end_append size at (stored_arrays merged kept) (zeroed_arrays merged kept),
      end_from size (end_of size at (stored_arrays merged kept)) (zeroed_arrays merged kept),
      end_from size at (stored_arrays merged kept),
    )
