-- Comparisons of two numbers of one type, by their 64 bits.
use Rattle.std.proofs.Common.{◌≡◌, ℕ, ◌^◌, ◌<◌, ℤ, pos, negsuc, Bool, true, false, cond, refl, ap₂, ◌∙◌, arith}
use Rattle.std.specs.Prelude.{nat_lt, not, int_lt, int_le, bit_xor, ◌==◌}
use Rattle.std.specs.Ordering.{int_eq}
use Rattle.std.proofs.lemmas.Bool.Decides.{nat_tests}
use Rattle.std.proofs.lemmas.Int.{ints}
use Rattle.gimple_ir.specs.Values.{InRange, is_signed, value_of}
use Rattle.gimple_ir.specs.declared.types.ScalarType.{ScalarType}
use Rattle.gimple_ir.specs.declared.types.ScalarType.TheVariants.{Int, UnsignedInt, LongInt, LongUnsignedInt}
use Rattle.rv64_meaning.specs.Arithmetic.{bits64, less_signed, sub, bit}
use Rattle.follow_laws.proofs.Sums.{same_forms}
use Rattle.follow_laws.proofs.Numbers.{form, form_is, form_signed}

-- ---- less

-- z is a number of 64 bits with a sign
abbrev IsLong : ℤ → Type 0
IsLong z = InRange LongInt z

long_from_word : (z : ℤ) → InRange Int z → IsLong z
long_from_word z h = record { above = omega (arith, ints); below = omega (arith, ints) }

less_bits : (x y : ℤ) → IsLong x → IsLong y → less_signed (bits64 x) (bits64 y) ≡ int_lt x y
less_bits (pos n) (pos k) h j = grind (arith, nat_tests, ints)
less_bits (pos n) (negsuc k) h j = grind (arith, nat_tests, ints)
less_bits (negsuc n) (pos k) h j = grind (arith, nat_tests, ints)
less_bits (negsuc n) (negsuc k) h j = grind (arith, nat_tests, ints)

-- one register less than another, in the order of a type
abbrev pub less_by : ScalarType → ℕ → ℕ → Bool
less_by ty a b = cond (is_signed ty) (less_signed a b) (nat_lt a b)

pub less_forms : (ty : ScalarType) (x y : ℤ) → InRange ty x → InRange ty y → less_by ty (form ty x) (form ty y) ≡ int_lt x y
less_forms Int x y h j = ap₂ less_signed (form_signed Int x refl h) (form_signed Int y refl j) ∙ less_bits x y (long_from_word x h) (long_from_word y j)
less_forms UnsignedInt (pos n) (pos k) h j = ap₂ nat_lt (form_is UnsignedInt (pos n)) (form_is UnsignedInt (pos k)) ∙ grind (arith, nat_tests, ints)
less_forms UnsignedInt (pos n) (negsuc k) h j = absurd (omega (arith, ints))
less_forms UnsignedInt (negsuc n) y h j = absurd (omega (arith, ints))
less_forms LongInt x y h j = ap₂ less_signed (form_is LongInt x) (form_is LongInt y) ∙ less_bits x y h j
less_forms LongUnsignedInt (pos n) (pos k) h j = ap₂ nat_lt (form_is LongUnsignedInt (pos n)) (form_is LongUnsignedInt (pos k)) ∙ grind (arith, nat_tests, ints)
less_forms LongUnsignedInt (pos n) (negsuc k) h j = absurd (omega (arith, ints))
less_forms LongUnsignedInt (negsuc n) y h j = absurd (omega (arith, ints))

-- ---- equal

turned : (a b : ℕ) → (a == b) ≡ (b == a)
turned a b = grind (arith, nat_tests)

pub equal_forms : (ty : ScalarType) (x y : ℤ) → InRange ty x → InRange ty y → (form ty x == form ty y) ≡ int_eq x y
equal_forms ty x y h j = turned (form ty x) (form ty y) ∙ same_forms (value_of ty y) (value_of ty x) j h refl

-- ---- tests as numbers

-- a difference is zero where the numbers are equal
pub no_difference : (a b : ℕ) → a < 2 ^ 64 → b < 2 ^ 64 → nat_lt (sub a b) 1 ≡ (a == b)
no_difference a b h j = grind (arith, nat_tests)

pub a_difference : (a b : ℕ) → a < 2 ^ 64 → b < 2 ^ 64 → nat_lt 0 (sub a b) ≡ not (a == b)
a_difference a b h j = grind (arith, nat_tests)

pub bit_turned : (b : Bool) → bit_xor (bit b) (bits64 (pos 1)) ≡ bit (not b)
bit_turned true = refl
bit_turned false = refl

-- a test's value as an `int`
pub form_truth : (b : Bool) → form Int (cond b (pos 1) (pos 0)) ≡ bit b
form_truth true = refl
form_truth false = refl

pub at_most : (x y : ℤ) → not (int_lt y x) ≡ int_le x y
at_most (pos n) (pos k) = grind (arith, nat_tests)
at_most (pos n) (negsuc k) = refl
at_most (negsuc n) (pos k) = refl
at_most (negsuc n) (negsuc k) = grind (arith, nat_tests)
