-- Quotients and remainders of two numbers of a type, by their 64 bits.
use Rattle.std.proofs.Common.{◌≡◌, ℕ, suc, ◌-◌, ◌/◌, ◌%◌, ◌^◌, ◌<◌, ℤ, pos, negsuc, Bool, true, false, cond, refl, sym, ap, ap₂, ◌∙◌, arith}
use Rattle.std.specs.Prelude.{not, ◌&&◌, ◌==◌, int_div, int_rem, unsigned_abs}
use Rattle.std.specs.Ordering.{int_eq}
use Rattle.std.proofs.Math.Nat.{mod-le, div-le_self}
use Rattle.std.proofs.lemmas.Bool.Decides.{nat_tests}
use Rattle.std.proofs.lemmas.Int.{ints}
use Rattle.gimple_ir.specs.Values.{InRange, can_divide, is_signed, least, value_of}
use Rattle.gimple_ir.specs.declared.types.ScalarType.{ScalarType}
use Rattle.gimple_ir.specs.declared.types.ScalarType.TheVariants.{Int, UnsignedInt, LongInt, LongUnsignedInt}
use Rattle.rv64_isa.specs.Format.{residue}
use Rattle.rv64_meaning.specs.Arithmetic.{bits64, of_word, low, signed_low, signed64, div, divu, rem, remu, divw, divuw, remw, remuw}
use Rattle.rv64_select.specs.Operations.{by_type}
use Rattle.follow_laws.proofs.Forms.{form_low}
use Rattle.follow_laws.proofs.Numbers.{form, form_is, form_signed, of_word_low, signed_word, signed_long, unsigned_word, unsigned_long, word_unsigned}
use Rattle.follow_laws.proofs.NumbersTests.{equal_forms}

-- ---- divisors

not_first : (b c : Bool) → (not b && c) ≡ true → b ≡ false
not_first true c e = cc
not_first false c e = refl

not_zero : (ty : ScalarType) (x y : ℤ) → can_divide ty x y ≡ true → int_eq y (pos 0) ≡ false
not_zero ty x y can = not_first (int_eq y (pos 0)) (not (is_signed ty && int_eq x (least ty) && int_eq y (negsuc 0))) can

word_zero : (y : ℤ) → InRange Int y → (residue (2 ^ 32) y == 0) ≡ int_eq y (pos 0)
word_zero (pos n) h = grind (arith, nat_tests, ints)
word_zero (negsuc n) h = grind (arith, nat_tests, ints)

unsigned_zero : (n : ℕ) → n < 2 ^ 32 → (n % 2 ^ 32 == 0) ≡ int_eq (pos n) (pos 0)
unsigned_zero n h = grind (arith, nat_tests, ints)

-- ---- the range of remainders

in_range_remainder : (ty : ScalarType) (x y : ℤ) → InRange ty x → InRange ty (int_rem x y)
in_range_remainder Int (pos a) y h = record { above = omega (arith, ints); below = omega (arith, ints, mod-le a (unsigned_abs y)) }
in_range_remainder Int (negsuc a) y h = record { above = omega (arith, ints, mod-le (suc a) (unsigned_abs y)); below = omega (arith, ints) }
in_range_remainder UnsignedInt (pos a) y h = record { above = omega (arith, ints); below = omega (arith, ints, mod-le a (unsigned_abs y)) }
in_range_remainder UnsignedInt (negsuc a) y h = absurd (omega (arith, ints))
in_range_remainder LongInt (pos a) y h = record { above = omega (arith, ints); below = omega (arith, ints, mod-le a (unsigned_abs y)) }
in_range_remainder LongInt (negsuc a) y h = record { above = omega (arith, ints, mod-le (suc a) (unsigned_abs y)); below = omega (arith, ints) }
in_range_remainder LongUnsignedInt (pos a) y h = record { above = omega (arith, ints); below = omega (arith, ints, mod-le a (unsigned_abs y)) }
in_range_remainder LongUnsignedInt (negsuc a) y h = absurd (omega (arith, ints))

-- ---- quotients

-- a word of a number's bits is the number's form
low_bits : (z : ℤ) → bits64 z % 2 ^ 32 ≡ residue (2 ^ 32) z
low_bits (pos n) = omega arith
low_bits (negsuc n) = omega arith

word_form : (z : ℤ) → of_word (bits64 z) ≡ form Int z
word_form z = of_word_low (bits64 z) ∙ ap of_word (low_bits z) ∙ sym (form_is Int z)

-- where a test fails
otherwise : (b : Bool) (x y : ℕ) → b ≡ false → cond b x y ≡ y
otherwise true x y e = cc
otherwise false x y e = refl

low_divisor : (x y : ℤ) → InRange Int y → can_divide Int x y ≡ true → (low (form Int y) == 0) ≡ false
low_divisor x y j can = ap (λ n. n == 0) (form_low (value_of Int y)) ∙ word_zero y j ∙ not_zero Int x y can

low_unsigned_divisor : (x : ℤ) (b : ℕ) → b < 2 ^ 32 → can_divide UnsignedInt x (pos b) ≡ true → (low (form UnsignedInt (pos b)) == 0) ≡ false
low_unsigned_divisor x b j can = ap (λ n. n == 0) (form_low (value_of UnsignedInt (pos b))) ∙ unsigned_zero b j ∙ not_zero UnsignedInt x (pos b) can

long_zero : InRange LongInt (pos 0)
long_zero = record { above = omega (arith, ints); below = omega (arith, ints) }

long_unsigned_zero : InRange LongUnsignedInt (pos 0)
long_unsigned_zero = record { above = omega (arith, ints); below = omega (arith, ints) }

long_divisor : (x y : ℤ) → InRange LongInt y → can_divide LongInt x y ≡ true → (form LongInt y == 0) ≡ false
long_divisor x y j can = equal_forms LongInt y (pos 0) j long_zero ∙ not_zero LongInt x y can

long_unsigned_divisor : (x y : ℤ) → InRange LongUnsignedInt y → can_divide LongUnsignedInt x y ≡ true → (form LongUnsignedInt y == 0) ≡ false
long_unsigned_divisor x y j can = equal_forms LongUnsignedInt y (pos 0) j long_unsigned_zero ∙ not_zero LongUnsignedInt x y can

abbrev pub quotient : ScalarType → ℕ → ℕ → ℕ
quotient ty = by_type ty divw divuw div divu

pub quotient_form : (ty : ScalarType) (x y : ℤ) → InRange ty x → InRange ty y → can_divide ty x y ≡ true → quotient ty (form ty x) (form ty y) ≡ form ty (int_div x y)
quotient_form Int x y h j can =
    otherwise (low (form Int y) == 0) (2 ^ 64 - 1) (of_word (bits64 (int_div (signed_low (form Int x)) (signed_low (form Int y))))) (low_divisor x y j can)
    ∙ ap₂ (λ a b. of_word (bits64 (int_div a b))) (signed_word x h) (signed_word y j) ∙ word_form (int_div x y)
quotient_form UnsignedInt (pos a) (pos b) h j can =
    let a_lt : a < 2 ^ 32 = omega (arith, ints) in
    let b_lt : b < 2 ^ 32 = omega (arith, ints) in
    let less = div-le_self a b in
    otherwise (low (form UnsignedInt (pos b)) == 0) (2 ^ 64 - 1) (of_word (low (form UnsignedInt (pos a)) / low (form UnsignedInt (pos b)))) (low_unsigned_divisor (pos a) b b_lt can)
    ∙ ap₂ (λ n k. of_word (n / k)) (unsigned_word a a_lt) (unsigned_word b b_lt) ∙ word_unsigned (a / b) (omega (arith, a_lt, less))
quotient_form UnsignedInt (pos a) (negsuc b) h j can = absurd (omega (arith, ints))
quotient_form UnsignedInt (negsuc a) y h j can = absurd (omega (arith, ints))
quotient_form LongInt x y h j can =
    otherwise (form LongInt y == 0) (2 ^ 64 - 1) (bits64 (int_div (signed64 (form LongInt x)) (signed64 (form LongInt y)))) (long_divisor x y j can)
    ∙ ap₂ (λ a b. bits64 (int_div a b)) (signed_long x h) (signed_long y j) ∙ sym (form_is LongInt (int_div x y))
quotient_form LongUnsignedInt (pos a) (pos b) h j can =
    let a_lt : a < 2 ^ 64 = omega (arith, ints) in
    let b_lt : b < 2 ^ 64 = omega (arith, ints) in
    let less = div-le_self a b in
    otherwise (form LongUnsignedInt (pos b) == 0) (2 ^ 64 - 1) (form LongUnsignedInt (pos a) / form LongUnsignedInt (pos b)) (long_unsigned_divisor (pos a) (pos b) j can)
    ∙ ap₂ (λ n k. n / k) (unsigned_long a a_lt) (unsigned_long b b_lt) ∙ sym (unsigned_long (a / b) (omega (arith, a_lt, less)))
quotient_form LongUnsignedInt (pos a) (negsuc b) h j can = absurd (omega (arith, ints))
quotient_form LongUnsignedInt (negsuc a) y h j can = absurd (omega (arith, ints))

-- ---- remainders

abbrev pub remainder : ScalarType → ℕ → ℕ → ℕ
remainder ty = by_type ty remw remuw rem remu

pub remainder_form : (ty : ScalarType) (x y : ℤ) → InRange ty x → InRange ty y → can_divide ty x y ≡ true → remainder ty (form ty x) (form ty y) ≡ form ty (int_rem x y)
remainder_form Int x y h j can =
    otherwise (low (form Int y) == 0) (of_word (form Int x)) (bits64 (int_rem (signed_low (form Int x)) (signed_low (form Int y)))) (low_divisor x y j can)
    ∙ ap₂ (λ a b. bits64 (int_rem a b)) (signed_word x h) (signed_word y j) ∙ sym (form_signed Int (int_rem x y) refl (in_range_remainder Int x y h))
remainder_form UnsignedInt (pos a) (pos b) h j can =
    let a_lt : a < 2 ^ 32 = omega (arith, ints) in
    let b_lt : b < 2 ^ 32 = omega (arith, ints) in
    let less = mod-le a b in
    otherwise (low (form UnsignedInt (pos b)) == 0) (of_word (form UnsignedInt (pos a))) (of_word (low (form UnsignedInt (pos a)) % low (form UnsignedInt (pos b)))) (low_unsigned_divisor (pos a) b b_lt can)
    ∙ ap₂ (λ n k. of_word (n % k)) (unsigned_word a a_lt) (unsigned_word b b_lt) ∙ word_unsigned (a % b) (omega (arith, a_lt, less))
remainder_form UnsignedInt (pos a) (negsuc b) h j can = absurd (omega (arith, ints))
remainder_form UnsignedInt (negsuc a) y h j can = absurd (omega (arith, ints))
remainder_form LongInt x y h j can =
    otherwise (form LongInt y == 0) (form LongInt x) (bits64 (int_rem (signed64 (form LongInt x)) (signed64 (form LongInt y)))) (long_divisor x y j can)
    ∙ ap₂ (λ a b. bits64 (int_rem a b)) (signed_long x h) (signed_long y j) ∙ sym (form_is LongInt (int_rem x y))
remainder_form LongUnsignedInt (pos a) (pos b) h j can =
    let a_lt : a < 2 ^ 64 = omega (arith, ints) in
    let b_lt : b < 2 ^ 64 = omega (arith, ints) in
    let less = mod-le a b in
    otherwise (form LongUnsignedInt (pos b) == 0) (form LongUnsignedInt (pos a)) (form LongUnsignedInt (pos a) % form LongUnsignedInt (pos b)) (long_unsigned_divisor (pos a) (pos b) j can)
    ∙ ap₂ (λ n k. n % k) (unsigned_long a a_lt) (unsigned_long b b_lt) ∙ sym (unsigned_long (a % b) (omega (arith, a_lt, less)))
remainder_form LongUnsignedInt (pos a) (negsuc b) h j can = absurd (omega (arith, ints))
remainder_form LongUnsignedInt (negsuc a) y h j can = absurd (omega (arith, ints))
