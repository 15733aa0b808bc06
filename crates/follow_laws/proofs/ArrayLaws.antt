-- The bytes of arrays: how many there are, and the places of the kept arrays.
use Rattle.std.proofs.Common.{◌≡◌, ℕ, suc, ◌+◌, ◌-◌, ◌*◌, ◌%◌, ◌≤◌, ℤ, Bool, true, false, List, [], ◌∷◌, length, All, Option, Some, None, refl, ap, ◌∙◌, arith, length-append}
use Rattle.std.specs.Prelude.{slice_get, replicate, not}
use Rattle.std.specs.List.{flat_map}
use Rattle.std.specs.Option.{option_map_or}
use Rattle.std.proofs.lemmas.List.{length-replicate}
use Rattle.std.proofs.lemmas.Nat.{mul-le}
use Rattle.gimple_ir.specs.Programs.{IsProgramArray}
use Rattle.gimple_ir.specs.declared.types.Array.{Array}
use Rattle.gimple_ir.specs.declared.types.ElementType.{ElementType}
use Rattle.gimple_ir.specs.declared.types.ElementType.TheVariants as element
use Rattle.gimple_ir.specs.declared.types.ScalarType.TheVariants.{Int, UnsignedInt, LongInt, LongUnsignedInt}
use Rattle.gimple_ir.specs.declared.merged.Merged.{Merged}
use Rattle.gimple_ir.specs.declared.merged.MergedArray.{MergedArray}
use Rattle.final_link.specs.Image.{word, xword}
use Rattle.final_link.specs.Arrays.{element_size, element_bytes, array_size, array_bytes, size_of, bytes_of, is_zeroed, stored_arrays, zeroed_arrays}
use Rattle.final_link.specs.Symbols.{end_of, arrays_in_order}
use Rattle.final_link.proofs.ArrayLaws.{end_from}
use Rattle.final_link.proofs.PlaceLaws.{end_append}
use Rattle.follow_laws.proofs.ImageLists.{all_at, in_front, behind, filtered}

pub length-element : (type : ElementType) (z : ℤ) → length (element_bytes type z) ≡ element_size type
unfolding word xword
length-element element.UnsignedChar z = refl
length-element (element.Scalar Int) z = refl
length-element (element.Scalar UnsignedInt) z = refl
length-element (element.Scalar LongInt) z = refl
length-element (element.Scalar LongUnsignedInt) z = refl

pub length-elements : (type : ElementType) (zs : List ℤ) → length (flat_map (element_bytes type) zs) ≡ length zs * element_size type
length-elements type [] = omega arith
length-elements type (z ∷ zs) =
    let step : suc (length zs) * element_size type ≡ element_size type + length zs * element_size type = omega arith in
    omega (arith, step, length-append (element_bytes type z) (flat_map (element_bytes type) zs), length-element type z, length-elements type zs)

pub elements_within : (a : Array) → length a.initial ≤ a.length → length (flat_map (element_bytes a.element) a.initial) ≤ array_size a
elements_within a h = omega (arith, length-elements a.element a.initial, mul-le (length a.initial) (element_size a.element) a.length (element_size a.element) h (omega arith))

pub length-array : (a : Array) → length a.initial ≤ a.length → length (array_bytes a) ≡ array_size a
length-array a h =
    let first = flat_map (element_bytes a.element) a.initial in
    omega (arith, length-append first (replicate (array_size a - length first) 0), length-replicate {A = ℕ} (array_size a - length first) 0, elements_within a h)

-- ---- by number

size_rounds : (o : Option MergedArray) → option_map_or (λ a. array_size a.item) o 0 % 8 ≡ 0
size_rounds None = refl
size_rounds (Some a) = omega arith

pub size_aligned : (merged : Merged) (k : ℕ) → size_of merged k % 8 ≡ 0
size_aligned merged k = size_rounds (slice_get merged.arrays k)

bytes_by : (arrays : List MergedArray) (k : ℕ) (o : Option MergedArray) → slice_get arrays k ≡ o → All (λ a. IsProgramArray a.item) arrays
    → length (option_map_or (λ a. array_bytes a.item) o []) ≡ option_map_or (λ a. array_size a.item) o 0
bytes_by arrays k None e h = refl
bytes_by arrays k (Some a) e h = length-array a.item (all_at (λ (x : MergedArray). IsProgramArray x.item) arrays k a e h).within

pub length-bytes : (merged : Merged) (k : ℕ) → All (λ a. IsProgramArray a.item) merged.arrays → length (bytes_of merged k) ≡ size_of merged k
length-bytes merged k h = bytes_by merged.arrays k (slice_get merged.arrays k) refl h

pub length-stored : (merged : Merged) (ks : List ℕ) → All (λ a. IsProgramArray a.item) merged.arrays → length (flat_map (bytes_of merged) ks) ≡ end_of (size_of merged) 0 ks
length-stored merged [] h = refl
length-stored merged (k ∷ ks) h =
    omega (arith, length-append (bytes_of merged k) (flat_map (bytes_of merged) ks), length-bytes merged k h, length-stored merged ks h, end_from (size_of merged) (0 + size_of merged k) ks)

-- all arrays end where the stored and those that are all zero do
pub both_end : (merged : Merged) (kept : List ℕ) → All (λ a. IsProgramArray a.item) merged.arrays
    → length (flat_map (bytes_of merged) (stored_arrays merged kept)) + end_of (size_of merged) 0 (zeroed_arrays merged kept) ≡ end_of (size_of merged) 0 (arrays_in_order merged kept)
both_end merged kept h =
    let size = size_of merged in
    let first = stored_arrays merged kept in
    let last = zeroed_arrays merged kept in
    omega (arith, length-stored merged first h, end_append size 0 first last, end_from size (end_of size 0 first) last)

pub size_at : (merged : Merged) (k : ℕ) (a : MergedArray) → slice_get merged.arrays k ≡ Some a → size_of merged k ≡ array_size a.item
size_at merged k a e = ap (λ (o : Option MergedArray). option_map_or (λ (x : MergedArray). array_size x.item) o 0) e

-- ---- in order

ordered_by : (b : Bool) (merged : Merged) (kept : List ℕ) (i k : ℕ) → is_zeroed merged k ≡ b → slice_get kept i ≡ Some k → (j : ℕ) × (slice_get (arrays_in_order merged kept) j ≡ Some k)
ordered_by true merged kept i k z e =
    let found = filtered (is_zeroed merged) kept i k e z in
    (length (stored_arrays merged kept) + found.0, behind (stored_arrays merged kept) (zeroed_arrays merged kept) found.0 ∙ found.1)
ordered_by false merged kept i k z e =
    let found = filtered (λ n. not (is_zeroed merged n)) kept i k e (ap not z) in
    (found.0, in_front (stored_arrays merged kept) (zeroed_arrays merged kept) found.0 k found.1)

-- each kept array is in the order
pub ordered : (merged : Merged) (kept : List ℕ) (i k : ℕ) → slice_get kept i ≡ Some k → (j : ℕ) × (slice_get (arrays_in_order merged kept) j ≡ Some k)
ordered merged kept i k e = ordered_by (is_zeroed merged k) merged kept i k refl e
