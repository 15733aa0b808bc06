-- What an operation gives lies in the range of its type.
use Rattle.std.proofs.Common.{◌≡◌, ◌<◌, ◌≤◌, ◌-◌, ◌*◌, ◌/◌, ◌^◌, ℕ, zero, suc, ℤ, pos, negsuc, neg_ℤ, ◌+ℤ◌, ◌-ℤ◌, ◌*ℤ◌, Some, None, Bool, true, false, not, refl, arith}
use Rattle.std.proofs.lemmas.Int.{ints}
use Rattle.std.proofs.Math.Nat.{lt_of_le_of_lt, mod-le, div-le_self, mul-le-mul_left, div-add-mod'}
use Rattle.std.proofs.lemmas.Bool.Decides.{nat_tests}
use Rattle.std.specs.Prelude.{unsigned_abs, int_div, int_rem, int_le, int_lt, IfSome, if◌then◌else◌}
use Rattle.std.specs.Int.{int_shr}
use Rattle.std.specs.Ordering.{int_eq}
use Rattle.std.specs.Int.Bits.{and_le_l}
use Rattle.gimple_ir.specs.declared.types.Value.{Value}
use Rattle.gimple_ir.specs.declared.types.UnaryOp.{UnaryOp}
use Rattle.gimple_ir.specs.declared.types.UnaryOp.TheVariants.{Neg, Not}
use Rattle.gimple_ir.specs.declared.types.BinaryOp.{BinaryOp}
use Rattle.gimple_ir.specs.declared.types.BinaryOp.TheVariants.{Add, Sub, Mul, Div, Rem, And, Or, Xor, Shl, Shr, Eq, Ne, Lt, Le, Gt, Ge}
use Rattle.gimple_ir.specs.Values.{is_signed, in_range, InRange, IsValue, modulus, residue, from_residue, reduced, value_of, result_of, can_divide, can_shift, truth_of, unary_of, binary_of, TypesFit}
use Rattle.gimple_ir.proofs.Ranges.{residue-lt, residue-or, residue-xor}
use Rattle.gimple_ir.specs.declared.types.ScalarType.{ScalarType}
use Rattle.gimple_ir.specs.declared.types.ScalarType.TheVariants.{Int, UnsignedInt, LongInt, LongUnsignedInt}

-- a residue, read as a number of the type
pub from_residue-InRange : (ty : ScalarType) (n : ℕ) → n < modulus ty → InRange ty (from_residue ty n)
from_residue-InRange Int n h = grind (arith, ints)
from_residue-InRange UnsignedInt n h = grind (arith, ints)
from_residue-InRange LongInt n h = grind (arith, ints)
from_residue-InRange LongUnsignedInt n h = grind (arith, ints)

pub in_range-InRange : (ty : ScalarType) (z : ℤ) → in_range ty z ≡ true → InRange ty z
in_range-InRange ty z e = grind (arith, ints)

pub reduced-InRange : (ty : ScalarType) (z : ℤ) → InRange ty (reduced ty z)
reduced-InRange ty z = from_residue-InRange ty (residue ty z) (residue-lt ty z)

pub result_of-IsValue : (ty : ScalarType) (z : ℤ) → IfSome (result_of ty z) IsValue
result_of-IsValue Int z = by (in_range Int z) refl
  where
    by : (t : Bool) → in_range Int z ≡ t → IfSome (if t then Some (value_of Int z) else None) IsValue
    by true e = in_range-InRange Int z e
    by false e = tt
result_of-IsValue UnsignedInt z = reduced-InRange UnsignedInt z
result_of-IsValue LongInt z = by (in_range LongInt z) refl
  where
    by : (t : Bool) → in_range LongInt z ≡ t → IfSome (if t then Some (value_of LongInt z) else None) IsValue
    by true e = in_range-InRange LongInt z e
    by false e = tt
result_of-IsValue LongUnsignedInt z = reduced-InRange LongUnsignedInt z

-- a number on the same side of 0 as one of the type, and no farther from it
smaller : (ty : ScalarType) (m n : ℕ) → InRange ty (pos m) → n ≤ m → InRange ty (pos n)
smaller Int m n h p = record { above = omega (arith, ints); below = omega (arith, ints) }
smaller UnsignedInt m n h p = record { above = omega (arith, ints); below = omega (arith, ints) }
smaller LongInt m n h p = record { above = omega (arith, ints); below = omega (arith, ints) }
smaller LongUnsignedInt m n h p = record { above = omega (arith, ints); below = omega (arith, ints) }

nearer : (ty : ScalarType) (m n : ℕ) → InRange ty (negsuc m) → n ≤ suc m → InRange ty (neg_ℤ (pos n))
nearer Int m n h p = record { above = omega (arith, ints); below = omega (arith, ints) }
nearer LongInt m n h p = record { above = omega (arith, ints); below = omega (arith, ints) }
nearer UnsignedInt m n h p = absurd (omega (arith, ints))
nearer LongUnsignedInt m n h p = absurd (omega (arith, ints))

pub rem-InRange : (ty : ScalarType) (a d : ℤ) → InRange ty a → InRange ty (int_rem a d)
rem-InRange ty (pos a) d h = smaller ty a _ h (mod-le a (unsigned_abs d))
rem-InRange ty (negsuc a) d h = nearer ty a _ h (mod-le (suc a) (unsigned_abs d))

pub shr-InRange : (ty : ScalarType) (a : ℤ) (k : ℕ) → InRange ty a → InRange ty (int_shr a k)
shr-InRange ty (pos a) k h = smaller ty a _ h (div-le_self a (2 ^ k))
shr-InRange ty (negsuc a) k h = nearer ty a (suc (a / 2 ^ k)) h (let d = div-le_self a (2 ^ k) in omega arith)

-- a divisor of at least 2 leaves at most half
half : (a d : ℕ) → 2 ≤ d → a / d * 2 ≤ a
half a d h = omega (arith, mul-le-mul_left (a / d) h, div-add-mod' a d)

-- a quotient of negative numbers, where it is not the least by -1
both_negative : (a b : ℕ) (top : ℕ) → suc a ≤ top → (b ≡ 0 → suc a < top) → suc a / suc b < top
both_negative a zero top h n = omega (arith, div-le_self (suc a) 1, n refl)
both_negative a (suc b) top h n = omega (arith, half (suc a) (suc (suc b)) (omega arith))

-- a negative number of a signed type, one step up and turned over
flipped : (ty : ScalarType) (m n : ℕ) → is_signed ty ≡ true → InRange ty (pos m) → n ≤ m → InRange ty (neg_ℤ (pos n))
flipped Int m n s h p = record { above = omega (arith, ints); below = omega (arith, ints) }
flipped LongInt m n s h p = record { above = omega (arith, ints); below = omega (arith, ints) }
flipped UnsignedInt m n s h p = cc
flipped LongUnsignedInt m n s h p = cc

pub quotient-InRange : (ty : ScalarType) (a b : ℤ) → InRange ty a → InRange ty b → can_divide ty a b ≡ true → InRange ty (int_div a b)
quotient-InRange ty (pos a) (pos b) h k c = smaller ty a _ h (div-le_self a b)
quotient-InRange ty (negsuc a) (pos b) h k c = nearer ty a _ h (div-le_self (suc a) b)
quotient-InRange Int (pos a) (negsuc b) h k c = flipped Int a _ refl h (div-le_self a (suc b))
quotient-InRange LongInt (pos a) (negsuc b) h k c = flipped LongInt a _ refl h (div-le_self a (suc b))
quotient-InRange UnsignedInt (pos a) (negsuc b) h k c = absurd (omega (arith, ints))
quotient-InRange LongUnsignedInt (pos a) (negsuc b) h k c = absurd (omega (arith, ints))
quotient-InRange Int (negsuc a) (negsuc b) h k c =
    let m = both_negative a b (2 ^ 31) (omega (arith, ints)) (λ e. grind (arith, nat_tests)) in
    record { above = omega (arith, ints); below = omega (arith, ints) }
quotient-InRange LongInt (negsuc a) (negsuc b) h k c =
    let m = both_negative a b (2 ^ 63) (omega (arith, ints)) (λ e. grind (arith, nat_tests)) in
    record { above = omega (arith, ints); below = omega (arith, ints) }
quotient-InRange UnsignedInt (negsuc a) (negsuc b) h k c = absurd (omega (arith, ints))
quotient-InRange LongUnsignedInt (negsuc a) (negsuc b) h k c = absurd (omega (arith, ints))

-- a test that passed
passed_test : (t : Bool) (v : Value) → (t ≡ true → IsValue v) → IfSome (if t then Some v else None) IsValue
passed_test true v h = h refl
passed_test false v h = tt

truth-IsValue : (t : Bool) → IfSome (truth_of t) IsValue
truth-IsValue true = grind (arith, ints)
truth-IsValue false = grind (arith, ints)

pub unary_of-IsValue : (op : UnaryOp) (v : Value) → IfSome (unary_of op v) IsValue
unary_of-IsValue Neg v = result_of-IsValue v.ty (neg_ℤ v.num)
unary_of-IsValue Not v =
    from_residue-InRange v.ty (modulus v.ty - 1 - residue v.ty v.num) (let p = residue-lt v.ty v.num in omega arith)

pub binary_of-IsValue : (op : BinaryOp) (a b : Value) → IsValue a → IsValue b → TypesFit op a b → IfSome (binary_of op a b) IsValue
binary_of-IsValue Add a b h k f = result_of-IsValue a.ty (a.num +ℤ b.num)
binary_of-IsValue Sub a b h k f = result_of-IsValue a.ty (a.num -ℤ b.num)
binary_of-IsValue Mul a b h k f = result_of-IsValue a.ty (a.num *ℤ b.num)
binary_of-IsValue Div a b h k f =
    passed_test (can_divide a.ty a.num b.num) _ (quotient-InRange a.ty a.num b.num h (rw f k))
binary_of-IsValue Rem a b h k f =
    passed_test (can_divide a.ty a.num b.num) _ (λ _. rem-InRange a.ty a.num b.num h)
binary_of-IsValue And a b h k f =
    from_residue-InRange a.ty _ (lt_of_le_of_lt (and_le_l (residue a.ty a.num) (residue a.ty b.num)) (residue-lt a.ty a.num))
binary_of-IsValue Or a b h k f = from_residue-InRange a.ty _ (residue-or a.ty a.num b.num _ _ refl refl)
binary_of-IsValue Xor a b h k f = from_residue-InRange a.ty _ (residue-xor a.ty a.num b.num _ _ refl refl)
binary_of-IsValue Shl a b h k f = passed_test (can_shift a.ty b.num) _ (λ _. reduced-InRange a.ty _)
binary_of-IsValue Shr a b h k f = passed_test (can_shift a.ty b.num) _ (λ _. shr-InRange a.ty a.num _ h)
binary_of-IsValue Eq a b h k f = truth-IsValue (int_eq a.num b.num)
binary_of-IsValue Ne a b h k f = truth-IsValue (not (int_eq a.num b.num))
binary_of-IsValue Lt a b h k f = truth-IsValue (int_lt a.num b.num)
binary_of-IsValue Le a b h k f = truth-IsValue (int_le a.num b.num)
binary_of-IsValue Gt a b h k f = truth-IsValue (int_lt b.num a.num)
binary_of-IsValue Ge a b h k f = truth-IsValue (int_le b.num a.num)
