-- The forms of numbers as instructions read them: of a signed type in two's complement, of a word by its low bits.
use Rattle.std.proofs.Common.{◌≡◌, ℕ, ◌+◌, ◌-◌, ◌%◌, ◌^◌, ◌<◌, ◌≤◌, ℤ, pos, negsuc, true, cond, sym, ap, ◌∙◌, arith}
use Rattle.std.specs.Prelude.{nat_lt}
use Rattle.std.proofs.Math.Nat.{mod-eq_of_lt, mod-mod}
use Rattle.std.proofs.lemmas.Bool.Decides.{nat_tests}
use Rattle.std.proofs.lemmas.Int.{ints}
use Rattle.gimple_ir.specs.Values.{InRange, is_signed, modulus, from_residue, reduced, value_of}
use Rattle.gimple_ir.specs.declared.types.ScalarType.{ScalarType}
use Rattle.gimple_ir.specs.declared.types.ScalarType.TheVariants.{Int, UnsignedInt, LongInt, LongUnsignedInt}
use Rattle.rv64_isa.specs.Format.{residue, signed}
use Rattle.rv64_meaning.specs.Arithmetic.{bits64, of_word}
use Rattle.follow_laws.specs.Frames.{form_of}
use Rattle.follow_laws.proofs.Forms.{low_of, low_lt, settled, settled_form, form_low, from_low, reduced_low}

-- the form of a number of a type
abbrev pub form : ScalarType → ℤ → ℕ
form ty z = form_of (value_of ty z)

modulus_le : (ty : ScalarType) → modulus ty ≤ 2 ^ 64
modulus_le Int = omega arith
modulus_le UnsignedInt = omega arith
modulus_le LongInt = omega arith
modulus_le LongUnsignedInt = omega arith

pub form_is : (ty : ScalarType) (z : ℤ) → form ty z ≡ settled ty (low_of ty z)
form_is ty z =
    let h = low_lt ty z in
    sym (settled_form ty (low_of ty z) z (omega (arith, h, modulus_le ty)) (mod-eq_of_lt h))

-- of the number of a type with these bits, and of a number that is taken into range
pub form_from : (ty : ScalarType) (n : ℕ) → n < modulus ty → form ty (from_residue ty n) ≡ settled ty n
form_from ty n h = form_is ty (from_residue ty n) ∙ ap (settled ty) (from_low ty n h)

pub form_reduced : (ty : ScalarType) (z : ℤ) → form ty (reduced ty z) ≡ form ty z
form_reduced ty z = form_is ty (reduced ty z) ∙ ap (settled ty) (reduced_low ty z) ∙ sym (form_is ty z)

-- a small number is its form in any type
pub form_small : (ty : ScalarType) (n : ℕ) → n < 2 ^ 31 → form ty (pos n) ≡ n
form_small Int n h = grind (arith, nat_tests)
form_small UnsignedInt n h = grind (arith, nat_tests)
form_small LongInt n h = grind (arith, nat_tests)
form_small LongUnsignedInt n h = grind (arith, nat_tests)

-- ---- signed types

pub form_signed : (ty : ScalarType) (z : ℤ) → is_signed ty ≡ true → InRange ty z → form ty z ≡ bits64 z
form_signed Int (pos n) s h = form_is Int (pos n) ∙ grind (arith, nat_tests, ints)
form_signed Int (negsuc n) s h = form_is Int (negsuc n) ∙ grind (arith, nat_tests, ints)
form_signed UnsignedInt z s h = cc
form_signed LongInt z s h = form_is LongInt z
form_signed LongUnsignedInt z s h = cc

-- the number is read back from its low bits
back_word : (z : ℤ) → InRange Int z → signed (2 ^ 32) (residue (2 ^ 32) z) ≡ z
back_word (pos n) h = grind (arith, nat_tests, ints)
back_word (negsuc n) h = grind (arith, nat_tests, ints)

back_long : (z : ℤ) → InRange LongInt z → signed (2 ^ 64) (residue (2 ^ 64) z) ≡ z
back_long (pos n) h = grind (arith, nat_tests, ints)
back_long (negsuc n) h = grind (arith, nat_tests, ints)

pub signed_word : (z : ℤ) → InRange Int z → signed (2 ^ 32) (form Int z % 2 ^ 32) ≡ z
signed_word z h = ap (signed (2 ^ 32)) (form_low (value_of Int z)) ∙ back_word z h

pub signed_long : (z : ℤ) → InRange LongInt z → signed (2 ^ 64) (form LongInt z) ≡ z
signed_long z h = ap (signed (2 ^ 64)) (form_is LongInt z) ∙ back_long z h

-- ---- unsigned types

pub unsigned_word : (n : ℕ) → n < 2 ^ 32 → form UnsignedInt (pos n) % 2 ^ 32 ≡ n
unsigned_word n h = form_low (value_of UnsignedInt (pos n)) ∙ mod-eq_of_lt h

pub unsigned_long : (n : ℕ) → n < 2 ^ 64 → form LongUnsignedInt (pos n) ≡ n
unsigned_long n h = form_is LongUnsignedInt (pos n) ∙ mod-eq_of_lt h

pub word_unsigned : (n : ℕ) → n < 2 ^ 32 → of_word n ≡ form UnsignedInt (pos n)
word_unsigned n h = ap of_word (sym (mod-eq_of_lt h)) ∙ sym (form_is UnsignedInt (pos n))

-- ---- words

pub of_word_low : (n : ℕ) → of_word n ≡ of_word (n % 2 ^ 32)
of_word_low n = ap of_low (sym (mod-mod n (2 ^ 32)))
  where
    of_low : ℕ → ℕ
    of_low w = cond (nat_lt w (2 ^ 31)) w (w + (2 ^ 64 - 2 ^ 32))
