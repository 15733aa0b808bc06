-- The arrays of the data segment: their order, sizes, bytes and symbols. An array is named by its number in the merged
-- program.
use Rattle.std.specs.Prelude.{ℕ, ◌-◌, ◌*◌, ◌^◌, ℤ, pos, unsigned_abs, List, [], ◌∷◌, ◌++◌, length, replicate, filter, Bool, true, not, slice_get, codes, decimal}
use Rattle.std.specs.List.{flat_map, list_all}
use Rattle.std.specs.Option.{option_map_or}
use Rattle.std.specs.Int.{int_rem_euclid}
use Rattle.std.specs.Ordering.{int_eq}
use Rattle.gimple_ir.specs.declared.types.ScalarType.TheVariants.{Int, UnsignedInt, LongInt, LongUnsignedInt}
use Rattle.gimple_ir.specs.declared.types.ElementType.{ElementType}
use Rattle.gimple_ir.specs.declared.types.ElementType.TheVariants.{Scalar, UnsignedChar}
use Rattle.gimple_ir.specs.declared.types.Array.{Array}
use Rattle.gimple_ir.specs.declared.merged.Merged.{Merged}
use Rattle.final_link.specs.Image.{round_up, word, xword}

-- ---- one array

-- in bytes
abbrev pub element_size : ElementType → ℕ
element_size UnsignedChar = 1
element_size (Scalar Int) = 4
element_size (Scalar UnsignedInt) = 4
element_size (Scalar LongInt) = 8
element_size (Scalar LongUnsignedInt) = 8

-- the low bits of a number in two's complement
abbrev pub low_bits : ℕ → ℤ → ℕ
low_bits bits z = unsigned_abs (int_rem_euclid z (pos (2 ^ bits)))

-- an element, least byte first
abbrev pub element_bytes : ElementType → ℤ → List ℕ
element_bytes UnsignedChar z = low_bits 8 z ∷ []
element_bytes (Scalar Int) z = word (low_bits 32 z)
element_bytes (Scalar UnsignedInt) z = word (low_bits 32 z)
element_bytes (Scalar LongInt) z = xword (low_bits 64 z)
element_bytes (Scalar LongUnsignedInt) z = xword (low_bits 64 z)

-- what it takes of the data segment, in bytes
abbrev pub array_size : Array → ℕ
array_size a = round_up 8 (a.length * element_size a.element)

-- its elements, of which missing ones are 0, and zeros up to its size
abbrev pub array_bytes : Array → List ℕ
array_bytes a =
    let first = flat_map (element_bytes a.element) a.initial in first ++ replicate (array_size a - length first) 0

abbrev pub is_all_zero : Array → Bool
is_all_zero a = list_all (λ z. int_eq z (pos 0)) a.initial

-- ---- by number

abbrev pub size_of : Merged → ℕ → ℕ
size_of merged number = option_map_or (λ a. array_size a.item) (slice_get merged.arrays number) 0

abbrev pub bytes_of : Merged → ℕ → List ℕ
bytes_of merged number = option_map_or (λ a. array_bytes a.item) (slice_get merged.arrays number) []

abbrev pub is_zeroed : Merged → ℕ → Bool
is_zeroed merged number = option_map_or (λ a. is_all_zero a.item) (slice_get merged.arrays number) true

-- NAME, `.a` and the number
abbrev pub array_symbol : Merged → ℕ → List ℕ
array_symbol merged number = option_map_or (λ a. a.name) (slice_get merged.arrays number) [] ++ (codes ".a" ++ decimal number)

-- ---- in order

-- the kept arrays with an element other than 0, by number, and those without one
abbrev pub stored_arrays : Merged → List ℕ → List ℕ
stored_arrays merged kept = filter (λ number. not (is_zeroed merged number)) kept

abbrev pub zeroed_arrays : Merged → List ℕ → List ℕ
zeroed_arrays merged kept = filter (is_zeroed merged) kept
