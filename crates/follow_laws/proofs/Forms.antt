-- Machine forms of numbers: by the low bits, which decide them.
use Rattle.std.proofs.Common.{◌≡◌, ℕ, zero, suc, ◌+◌, ◌-◌, ◌*◌, ◌%◌, ◌^◌, ◌<◌, ℤ, pos, negsuc, neg_ℤ, ◌+ℤ◌, ◌*ℤ◌, Bool, true, false, cond, Some, None, refl, sym, ap, ap₂, ◌∙◌, arith}
use Rattle.std.specs.Prelude.{nat_lt, if◌then◌else◌}
use Rattle.std.specs.Int.{w32, w64, int_wrap, cast_signed, cast_unsigned}
use mir.Syntax.{Width}
use mir.Val.{bits}
use Rattle.std.proofs.Math.Pow.{pow_pos, mod-mod-pow}
use Rattle.std.proofs.Math.Nat.{mod-lt}
use Rattle.std.proofs.lemmas.Nat.{mul-mod}
use Rattle.std.proofs.lemmas.Int.{ints, of_z-to_z, int_wrap-add_left, int_wrap-add_right, int_wrap-mul_left, int_wrap-mul_right, wrapping_add-bits, wrapping_mul-bits}
use Rattle.gimple_ir.specs.Values.{width, is_signed, greatest, in_range, IsValue, modulus, from_residue, reduced, value_of, result_of}
use Rattle.gimple_ir.specs.Values as values
use Rattle.gimple_ir.specs.declared.types.ScalarType.{ScalarType}
use Rattle.gimple_ir.specs.declared.types.ScalarType.TheVariants.{Int, UnsignedInt, LongInt, LongUnsignedInt}
use Rattle.gimple_ir.specs.declared.types.Value.{Value}
use Rattle.rv64_isa.specs.Format.{residue, signed}
use Rattle.rv64_isa.proofs.FormatLaws.{residue_lt}
use Rattle.rv64_meaning.specs.Arithmetic.{bits64, of_word, add, sub, mul}
use Rattle.rv64_select.specs.Templates.{machine_form}
use Rattle.rv64_select.specs.Operations.{by_type}
use Rattle.follow_laws.specs.Frames.{form_of}
use Rattle.follow_laws.proofs.Lists.{some_same}

-- the bits of a number in its type
abbrev pub low_of : ScalarType → ℤ → ℕ
low_of ty z = residue (modulus ty) z

pub low_lt : (ty : ScalarType) (z : ℤ) → low_of ty z < modulus ty
low_lt ty z = residue_lt (modulus ty) z (pow_pos (width ty))

pub residue_same : (ty : ScalarType) (z : ℤ) → values.residue ty z ≡ low_of ty z
residue_same ty (pos n) = refl
residue_same ty (negsuc n) = refl

-- ---- forms by low bits

-- the sign of 32 bits
word_is : (x : ℕ) → of_word x ≡ bits64 (signed (2 ^ 32) (x % 2 ^ 32))
word_is x = by (nat_lt (x % 2 ^ 32) (2 ^ 31)) (x % 2 ^ 32) (mod-lt x (pow_pos 32)) refl
  where
    by : (b : Bool) (n : ℕ) → n < 2 ^ 32 → nat_lt n (2 ^ 31) ≡ b → cond b n (n + (2 ^ 64 - 2 ^ 32)) ≡ bits64 (cond b (pos n) (negsuc (2 ^ 32 - 1 - n)))
    by true n h e = omega (arith, h)
    by false n h e = omega (arith, h)

long_is : (n : ℕ) → n < 2 ^ 64 → bits64 (signed (2 ^ 64) n) ≡ n
long_is n h = by (nat_lt n (2 ^ 63)) refl
  where
    by : (b : Bool) → nat_lt n (2 ^ 63) ≡ b → bits64 (cond b (pos n) (negsuc (2 ^ 64 - 1 - n))) ≡ n
    by true e = omega (arith, h)
    by false e = omega (arith, h)

-- a register that has the low bits of a number, with the sign of its type: as a word, or as it stands
abbrev pub settled : ScalarType → ℕ → ℕ
settled ty x = by_type ty (of_word x) (of_word x) x x

pub settled_form : (ty : ScalarType) (x : ℕ) (z : ℤ) → x < 2 ^ 64 → x % modulus ty ≡ low_of ty z → settled ty x ≡ form_of (value_of ty z)
settled_form Int x z h e = word_is x ∙ ap (λ n. bits64 (signed (2 ^ 32) n)) e
settled_form UnsignedInt x z h e = word_is x ∙ ap (λ n. bits64 (signed (2 ^ 32) n)) e
settled_form LongInt x z h e = let low : x ≡ low_of LongInt z = omega (arith, e, h) in low ∙ sym (long_is (low_of LongInt z) (low_lt LongInt z))
settled_form LongUnsignedInt x z h e = let low : x ≡ low_of LongUnsignedInt z = omega (arith, e, h) in low ∙ sym (long_is (low_of LongUnsignedInt z) (low_lt LongUnsignedInt z))

-- the same, of a value whose bits they are
pub settled_value : (ty : ScalarType) (x : ℕ) (r : Value) → x < 2 ^ 64 → r.ty ≡ ty → x % modulus ty ≡ low_of ty r.num → settled ty x ≡ form_of r
settled_value ty x r h e low = settled_form ty x r.num h low ∙ ap (λ (k : ScalarType). form_of (value_of k r.num)) (sym e)

word_low : (n : ℕ) → n < 2 ^ 32 → bits64 (signed (2 ^ 32) n) % 2 ^ 32 ≡ n
word_low n h = by (nat_lt n (2 ^ 31)) refl
  where
    by : (b : Bool) → nat_lt n (2 ^ 31) ≡ b → bits64 (cond b (pos n) (negsuc (2 ^ 32 - 1 - n))) % 2 ^ 32 ≡ n
    by true e = omega (arith, h)
    by false e = omega (arith, h)

-- the low bits of a form
form_low_in : (ty : ScalarType) (z : ℤ) → form_of (value_of ty z) % modulus ty ≡ low_of ty z
form_low_in Int z = word_low (low_of Int z) (low_lt Int z)
form_low_in UnsignedInt z = word_low (low_of UnsignedInt z) (low_lt UnsignedInt z)
form_low_in LongInt z = let h = low_lt LongInt z in ap (λ n. n % 2 ^ 64) (long_is (low_of LongInt z) h) ∙ omega (arith, h)
form_low_in LongUnsignedInt z = let h = low_lt LongUnsignedInt z in ap (λ n. n % 2 ^ 64) (long_is (low_of LongUnsignedInt z) h) ∙ omega (arith, h)

pub form_low : (v : Value) → form_of v % modulus v.ty ≡ low_of v.ty v.num
form_low v = form_low_in v.ty v.num

pub form_below : (v : Value) → form_of v < 2 ^ 64
form_below v = residue_lt (2 ^ 64) (machine_form v.ty v.num) (omega arith)

-- ---- sums and products of bits

wrap_is : (w : Width) (z : ℤ) → int_wrap w z ≡ cast_signed w (residue (2 ^ bits w) z)
unfolding int_wrap
wrap_is w (pos n) = refl
wrap_is w (negsuc n) = refl

from_wrap : (w : Width) (z : ℤ) (x : ℕ) → x < 2 ^ bits w → int_wrap w z ≡ cast_signed w x → residue (2 ^ bits w) z ≡ x
from_wrap w z x h e =
    sym (of_z-to_z w (residue (2 ^ bits w) z) (residue_lt (2 ^ bits w) z (pow_pos (bits w)))) ∙ ap (cast_unsigned w) (sym (wrap_is w z) ∙ e) ∙ of_z-to_z w x h

width_sum : (w : Width) (a b : ℤ) → residue (2 ^ bits w) (a +ℤ b) ≡ (residue (2 ^ bits w) a + residue (2 ^ bits w) b) % 2 ^ bits w
width_sum w a b =
    let m = residue (2 ^ bits w) a in
    let n = residue (2 ^ bits w) b in
    let p = pow_pos (bits w) in
    from_wrap w (a +ℤ b) ((m + n) % 2 ^ bits w) (mod-lt (m + n) p)
    (sym (int_wrap-add_left w a b) ∙ sym (int_wrap-add_right w (int_wrap w a) b) ∙ ap₂ (λ (x y : ℤ). int_wrap w (x +ℤ y)) (wrap_is w a) (wrap_is w b)
    ∙ sym (wrapping_add-bits w m n (residue_lt (2 ^ bits w) a p) (residue_lt (2 ^ bits w) b p)))

width_product : (w : Width) (a b : ℤ) → residue (2 ^ bits w) (a *ℤ b) ≡ (residue (2 ^ bits w) a * residue (2 ^ bits w) b) % 2 ^ bits w
width_product w a b =
    let m = residue (2 ^ bits w) a in
    let n = residue (2 ^ bits w) b in
    let p = pow_pos (bits w) in
    from_wrap w (a *ℤ b) ((m * n) % 2 ^ bits w) (mod-lt (m * n) p)
    (sym (int_wrap-mul_left w a b) ∙ sym (int_wrap-mul_right w (int_wrap w a) b) ∙ ap₂ (λ (x y : ℤ). int_wrap w (x *ℤ y)) (wrap_is w a) (wrap_is w b)
    ∙ sym (wrapping_mul-bits w m n (residue_lt (2 ^ bits w) a p) (residue_lt (2 ^ bits w) b p)))

abbrev width_of : ScalarType → Width
width_of ty = by_type ty w32 w32 w64 w64

pub low_sum : (ty : ScalarType) (a b : ℤ) → low_of ty (a +ℤ b) ≡ (low_of ty a + low_of ty b) % modulus ty
low_sum Int a b = width_sum w32 a b
low_sum UnsignedInt a b = width_sum w32 a b
low_sum LongInt a b = width_sum w64 a b
low_sum LongUnsignedInt a b = width_sum w64 a b

pub low_product : (ty : ScalarType) (a b : ℤ) → low_of ty (a *ℤ b) ≡ (low_of ty a * low_of ty b) % modulus ty
low_product Int a b = width_product w32 a b
low_product UnsignedInt a b = width_product w32 a b
low_product LongInt a b = width_product w64 a b
low_product LongUnsignedInt a b = width_product w64 a b

-- a number turned over
pub low_negative : (ty : ScalarType) (z : ℤ) → low_of ty (neg_ℤ z) ≡ (modulus ty - low_of ty z) % modulus ty
low_negative Int (pos zero) = refl
low_negative Int (pos (suc n)) = omega arith
low_negative Int (negsuc n) = omega arith
low_negative UnsignedInt (pos zero) = refl
low_negative UnsignedInt (pos (suc n)) = omega arith
low_negative UnsignedInt (negsuc n) = omega arith
low_negative LongInt (pos zero) = refl
low_negative LongInt (pos (suc n)) = omega arith
low_negative LongInt (negsuc n) = omega arith
low_negative LongUnsignedInt (pos zero) = refl
low_negative LongUnsignedInt (pos (suc n)) = omega arith
low_negative LongUnsignedInt (negsuc n) = omega arith

-- the machine's sums, differences and products
pub add_low : (ty : ScalarType) (a b : ℕ) → add a b % modulus ty ≡ (a % modulus ty + b % modulus ty) % modulus ty
add_low Int a b = omega arith
add_low UnsignedInt a b = omega arith
add_low LongInt a b = omega arith
add_low LongUnsignedInt a b = omega arith

pub sub_low : (ty : ScalarType) (a b : ℕ) → b < 2 ^ 64 → sub a b % modulus ty ≡ (a % modulus ty + (modulus ty - b % modulus ty)) % modulus ty
sub_low Int a b h = omega (arith, h)
sub_low UnsignedInt a b h = omega (arith, h)
sub_low LongInt a b h = omega (arith, h)
sub_low LongUnsignedInt a b h = omega (arith, h)

pub mul_low : (ty : ScalarType) (a b : ℕ) → mul a b % modulus ty ≡ (a % modulus ty * (b % modulus ty)) % modulus ty
mul_low Int a b = mod-mod-pow (a * b) 32 32 ∙ mul-mod a b (2 ^ 32)
mul_low UnsignedInt a b = mod-mod-pow (a * b) 32 32 ∙ mul-mod a b (2 ^ 32)
mul_low LongInt a b = mod-mod-pow (a * b) 0 64 ∙ mul-mod a b (2 ^ 64)
mul_low LongUnsignedInt a b = mod-mod-pow (a * b) 0 64 ∙ mul-mod a b (2 ^ 64)

-- ---- results

-- the number of the type with these bits has them
pub from_low : (ty : ScalarType) (n : ℕ) → n < modulus ty → low_of ty (from_residue ty n) ≡ n
from_low Int n h = grind (arith, ints)
from_low UnsignedInt n h = grind (arith, ints)
from_low LongInt n h = grind (arith, ints)
from_low LongUnsignedInt n h = grind (arith, ints)

pub reduced_low : (ty : ScalarType) (z : ℤ) → low_of ty (reduced ty z) ≡ low_of ty z
reduced_low ty z = ap (λ n. low_of ty (from_residue ty n)) (residue_same ty z) ∙ from_low ty (low_of ty z) (low_lt ty z)

-- what a sum, difference or product gives has its bits
pub result_low : (ty : ScalarType) (z : ℤ) (r : Value) → result_of ty z ≡ Some r → low_of ty r.num ≡ low_of ty z
result_low Int z r e = tested (in_range Int z) e
  where
    tested : (t : Bool) → (if t then Some (value_of Int z) else None) ≡ Some r → low_of Int r.num ≡ low_of Int z
    tested true h = ap (λ (v : Value). low_of Int v.num) (sym (some_same (value_of Int z) r h))
    tested false h = cc
result_low UnsignedInt z r e = ap (λ (v : Value). low_of UnsignedInt v.num) (sym (some_same (value_of UnsignedInt (reduced UnsignedInt z)) r e)) ∙ reduced_low UnsignedInt z
result_low LongInt z r e = tested (in_range LongInt z) e
  where
    tested : (t : Bool) → (if t then Some (value_of LongInt z) else None) ≡ Some r → low_of LongInt r.num ≡ low_of LongInt z
    tested true h = ap (λ (v : Value). low_of LongInt v.num) (sym (some_same (value_of LongInt z) r h))
    tested false h = cc
result_low LongUnsignedInt z r e = ap (λ (v : Value). low_of LongUnsignedInt v.num) (sym (some_same (value_of LongUnsignedInt (reduced LongUnsignedInt z)) r e)) ∙ reduced_low LongUnsignedInt z
