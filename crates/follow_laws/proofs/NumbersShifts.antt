-- Shifts of a number of a type, by its 64 bits.
use Rattle.std.proofs.Common.{◌≡◌, ℕ, zero, suc, ◌+◌, ◌-◌, ◌*◌, ◌/◌, ◌%◌, ◌^◌, ◌<◌, ◌≤◌, ℤ, pos, negsuc, neg_ℤ, ◌*ℤ◌, true, refl, sym, ap, ap₂, ◌∙◌, subst, arith}
use Rattle.std.specs.Prelude.{unsigned_abs}
use Rattle.std.specs.Int.{int_shr}
use Rattle.std.proofs.lemmas.Bool.Decides.{nat_tests}
use Rattle.std.proofs.Math.Nat.{mod-eq_of_lt, add-mul, mul_assoc}
use Rattle.std.proofs.lemmas.Nat.{shr_le, mul-mod_first}
use Rattle.std.proofs.lemmas.Int.{ints}
use Rattle.gimple_ir.specs.Values.{InRange, modulus, reduced, width, value_of, can_shift}
use Rattle.gimple_ir.specs.declared.types.ScalarType.{ScalarType}
use Rattle.gimple_ir.specs.declared.types.ScalarType.TheVariants.{Int, UnsignedInt, LongInt, LongUnsignedInt}
use Rattle.rv64_isa.specs.Format.{residue}
use Rattle.rv64_meaning.specs.Arithmetic.{bits64, of_word, sll, srl, sra, sllw, srlw, sraw}
use Rattle.rv64_select.specs.Operations.{by_type}
use Rattle.follow_laws.proofs.Forms.{low_of, form_low}
use Rattle.follow_laws.proofs.Numbers.{form, form_is, form_small, form_signed, form_reduced, of_word_low, signed_word, signed_long, unsigned_word, unsigned_long, word_unsigned}

-- ---- counts

-- a shift's count, which may be of any type
pub record Counts (ty count_type : ScalarType) (k : ℤ) : Type 0 where
  pub form_is : form count_type k ≡ unsigned_abs k
  pub below : unsigned_abs k < width ty

width_le : (ty : ScalarType) → width ty ≤ 64
width_le Int = omega arith
width_le UnsignedInt = omega arith
width_le LongInt = omega arith
width_le LongUnsignedInt = omega arith

pub counts : (ty count_type : ScalarType) (k : ℤ) → can_shift ty k ≡ true → Counts ty count_type k
counts ty count_type (pos n) can =
    let below : n < width ty = grind (arith, nat_tests) in
    record { form_is = form_small count_type n (omega (arith, below, width_le ty)); below = below }
counts ty count_type (negsuc n) can = cc

-- ---- residues of products

-- two numbers that add up to a multiple
opposite_word : (t p k : ℕ) → t + p ≡ 2 ^ 32 * k → t % 2 ^ 32 ≡ residue (2 ^ 32) (neg_ℤ (pos p))
opposite_word t zero k e = omega (arith, e)
opposite_word t (suc q) k e = omega (arith, e)

opposite_long : (t p k : ℕ) → t + p ≡ 2 ^ 64 * k → t % 2 ^ 64 ≡ residue (2 ^ 64) (neg_ℤ (pos p))
opposite_long t zero k e = omega (arith, e)
opposite_long t (suc q) k e = omega (arith, e)

scaled_sum : (a b m k f : ℕ) → a + b ≡ m * k → a * f + b * f ≡ m * (k * f)
scaled_sum a b m k f e = sym (add-mul a b f) ∙ ap (λ n. n * f) e ∙ mul_assoc m k f

word_times : (z : ℤ) (f : ℕ) → residue (2 ^ 32) z * f % 2 ^ 32 ≡ residue (2 ^ 32) (z *ℤ pos f)
word_times (pos n) f = mul-mod_first n f (2 ^ 32)
word_times (negsuc n) f = opposite_word _ (suc n * f) ((n / 2 ^ 32 + 1) * f) (scaled_sum (2 ^ 32 - 1 - n % 2 ^ 32) (suc n) (2 ^ 32) (n / 2 ^ 32 + 1) f (omega arith))

long_times : (z : ℤ) (f : ℕ) → residue (2 ^ 64) z * f % 2 ^ 64 ≡ residue (2 ^ 64) (z *ℤ pos f)
long_times (pos n) f = mul-mod_first n f (2 ^ 64)
long_times (negsuc n) f = opposite_long _ (suc n * f) ((n / 2 ^ 64 + 1) * f) (scaled_sum (2 ^ 64 - 1 - n % 2 ^ 64) (suc n) (2 ^ 64) (n / 2 ^ 64 + 1) f (omega arith))

residue_times : (ty : ScalarType) (z : ℤ) (f : ℕ) → low_of ty z * f % modulus ty ≡ low_of ty (z *ℤ pos f)
residue_times Int z f = word_times z f
residue_times UnsignedInt z f = word_times z f
residue_times LongInt z f = long_times z f
residue_times LongUnsignedInt z f = long_times z f

-- the low bits of a product are those of the product of the low bits
form_times : (ty : ScalarType) (z : ℤ) (f : ℕ) → form ty z * f % modulus ty ≡ low_of ty (z *ℤ pos f)
form_times ty z f = sym (mul-mod_first (form ty z) f (modulus ty)) ∙ ap (λ n. n * f % modulus ty) (form_low (value_of ty z)) ∙ residue_times ty z f

-- ---- to the left

abbrev pub shift_left : ScalarType → ℕ → ℕ → ℕ
shift_left ty = by_type ty sllw sllw sll sll

left_word : (ty : ScalarType) (z : ℤ) (n : ℕ) → n < 32 → modulus ty ≡ 2 ^ 32 → sllw (form ty z) n ≡ of_word (residue (2 ^ 32) (z *ℤ pos (2 ^ n)))
left_word ty z n h e =
    ap (λ k. of_word (form ty z * 2 ^ k)) (mod-eq_of_lt h) ∙ of_word_low (form ty z * 2 ^ n) ∙ ap of_word (subst (λ m. form ty z * 2 ^ n % m ≡ residue m (z *ℤ pos (2 ^ n))) e (form_times ty z (2 ^ n)))

left_long : (ty : ScalarType) (z : ℤ) (n : ℕ) → n < 64 → modulus ty ≡ 2 ^ 64 → sll (form ty z) n ≡ residue (2 ^ 64) (z *ℤ pos (2 ^ n))
left_long ty z n h e =
    ap (λ k. form ty z * 2 ^ k % 2 ^ 64) (mod-eq_of_lt h) ∙ subst (λ m. form ty z * 2 ^ n % m ≡ residue m (z *ℤ pos (2 ^ n))) e (form_times ty z (2 ^ n))

left_is : (ty : ScalarType) (z : ℤ) (n : ℕ) → n < width ty → shift_left ty (form ty z) n ≡ form ty (z *ℤ pos (2 ^ n))
left_is Int z n h = left_word Int z n h refl ∙ sym (form_is Int (z *ℤ pos (2 ^ n)))
left_is UnsignedInt z n h = left_word UnsignedInt z n h refl ∙ sym (form_is UnsignedInt (z *ℤ pos (2 ^ n)))
left_is LongInt z n h = left_long LongInt z n h refl ∙ sym (form_is LongInt (z *ℤ pos (2 ^ n)))
left_is LongUnsignedInt z n h = left_long LongUnsignedInt z n h refl ∙ sym (form_is LongUnsignedInt (z *ℤ pos (2 ^ n)))

pub shifted_left : (ty : ScalarType) (z : ℤ) (n : ℕ) → n < width ty → shift_left ty (form ty z) n ≡ form ty (reduced ty (z *ℤ pos (2 ^ n)))
shifted_left ty z n h = left_is ty z n h ∙ sym (form_reduced ty (z *ℤ pos (2 ^ n)))

-- ---- to the right

abbrev pub shift_right : ScalarType → ℕ → ℕ → ℕ
shift_right ty = by_type ty sraw srlw sra srl

pub in_range_right : (ty : ScalarType) (z : ℤ) (n : ℕ) → InRange ty z → InRange ty (int_shr z n)
in_range_right Int (pos a) n h = record { above = omega (arith, ints); below = omega (arith, ints, shr_le a n) }
in_range_right Int (negsuc a) n h = record { above = omega (arith, ints, shr_le a n); below = omega (arith, ints) }
in_range_right UnsignedInt (pos a) n h = record { above = omega (arith, ints); below = omega (arith, ints, shr_le a n) }
in_range_right UnsignedInt (negsuc a) n h = absurd (omega (arith, ints))
in_range_right LongInt (pos a) n h = record { above = omega (arith, ints); below = omega (arith, ints, shr_le a n) }
in_range_right LongInt (negsuc a) n h = record { above = omega (arith, ints, shr_le a n); below = omega (arith, ints) }
in_range_right LongUnsignedInt (pos a) n h = record { above = omega (arith, ints); below = omega (arith, ints, shr_le a n) }
in_range_right LongUnsignedInt (negsuc a) n h = absurd (omega (arith, ints))

pub shifted_right : (ty : ScalarType) (z : ℤ) (n : ℕ) → InRange ty z → n < width ty → shift_right ty (form ty z) n ≡ form ty (int_shr z n)
shifted_right Int z n h j = ap₂ (λ y k. bits64 (int_shr y k)) (signed_word z h) (mod-eq_of_lt j) ∙ sym (form_signed Int (int_shr z n) refl (in_range_right Int z n h))
shifted_right UnsignedInt (pos a) n h j =
    let below : a < 2 ^ 32 = omega (arith, ints) in
    let less = shr_le a n in
    let small : a / 2 ^ n < 2 ^ 32 = omega (arith, below, less) in
    ap₂ (λ y k. of_word (y / 2 ^ k)) (unsigned_word a below) (mod-eq_of_lt j) ∙ word_unsigned (a / 2 ^ n) small
shifted_right UnsignedInt (negsuc a) n h j = absurd (omega (arith, ints))
shifted_right LongInt z n h j = ap₂ (λ y k. bits64 (int_shr y k)) (signed_long z h) (mod-eq_of_lt j) ∙ sym (form_is LongInt (int_shr z n))
shifted_right LongUnsignedInt (pos a) n h j =
    let below : a < 2 ^ 64 = omega (arith, ints) in
    let less = shr_le a n in
    let small : a / 2 ^ n < 2 ^ 64 = omega (arith, below, less) in
    ap₂ (λ y k. y / 2 ^ k) (unsigned_long a below) (mod-eq_of_lt j) ∙ sym (unsigned_long (a / 2 ^ n) small)
shifted_right LongUnsignedInt (negsuc a) n h j = absurd (omega (arith, ints))
