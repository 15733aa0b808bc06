-- Sums, differences, products, complements and conversions: what the instructions compute is the form of the result.
use Rattle.std.proofs.Common.{◌≡◌, ℕ, zero, suc, ◌+◌, ◌-◌, ◌*◌, ◌/◌, ◌%◌, ◌^◌, ◌<◌, ℤ, pos, negsuc, neg_ℤ, ◌+ℤ◌, ◌-ℤ◌, ◌*ℤ◌, [], ◌∷◌, Some, refl, sym, ap, ap₂, ◌∙◌, subst, arith}
use Rattle.std.specs.Prelude.{bit_xor, ◌==◌}
use Rattle.std.specs.Ordering.{int_eq}
use Rattle.std.proofs.Math.Nat.{mod-lt}
use Rattle.std.proofs.Math.Pow.{pow_pos}
use Rattle.std.proofs.lemmas.Nat.{xor_block}
use Rattle.std.proofs.lemmas.Int.{ints}
use Rattle.std.proofs.lemmas.Bool.Decides.{nat_tests, same_from_decides, Decides-eqb, Decides-int_eq, Decides-like}
use Rattle.gimple_ir.specs.Values.{IsValue, InRange, modulus, from_residue, reduced, value_of, result_of, unary_of, binary_of, convert_of, TypesFit}
use Rattle.gimple_ir.specs.Values as values
use Rattle.gimple_ir.specs.declared.types.ScalarType.{ScalarType}
use Rattle.gimple_ir.specs.declared.types.ScalarType.TheVariants.{Int, UnsignedInt, LongInt, LongUnsignedInt}
use Rattle.gimple_ir.specs.declared.types.UnaryOp.TheVariants as unary
use Rattle.gimple_ir.specs.declared.types.BinaryOp.TheVariants as binary
use Rattle.gimple_ir.specs.declared.types.Value.{Value}
use Rattle.rv64_isa.specs.declared.instr.Instr.TheVariants.{Addw, Add, Subw, Sub, Mulw, Mul, Xori, Addiw, Slli, Srli}
use Rattle.rv64_isa.specs.Format.{residue, signed, IsSigned}
use Rattle.rv64_isa.proofs.FormatLaws.{signed-residue}
use Rattle.rv64_meaning.specs.Arithmetic.{bits64, of_word, plus, add, sub, mul}
use Rattle.rv64_select.specs.Operations.{operation, unary_operation, conversion}
use Rattle.follow_laws.specs.Frames.{form_of}
use Rattle.follow_laws.proofs.Types.{if_some, result_type}
use Rattle.follow_laws.proofs.Computing.{Computes, computes_none, computes_by, computes_on, computes_as}
use Rattle.follow_laws.proofs.Forms.{low_of, low_lt, residue_same, settled, settled_form, settled_value, form_low, form_below, low_sum, low_product, low_negative, add_low, sub_low, mul_low, from_low, reduced_low, result_low}
use Rattle.follow_laws.proofs.ValueRows.{UnaryComputes, ConversionComputes, BinaryComputes}
use Rattle.follow_laws.proofs.TestRows.{SameForms}
use Rattle.follow_laws.proofs.Lists.{some_same}

-- the low bits of a second operand of the same type
low_at : (ty : ScalarType) (u : Value) → ty ≡ u.ty → form_of u % modulus ty ≡ low_of ty u.num
low_at ty u e = subst (λ k. form_of u % modulus k ≡ low_of k u.num) (sym e) (form_low u)

-- ---- sums

adds : (ty : ScalarType) (a b : ℕ) → Computes (operation binary.Add ty) a b (settled ty (add a b))
adds Int a b = computes_by (Addw 5 5 6) (λ x y. of_word (add x y)) a b (λ m s. refl)
adds UnsignedInt a b = computes_by (Addw 5 5 6) (λ x y. of_word (add x y)) a b (λ m s. refl)
adds LongInt a b = computes_by (Add 5 5 6) (λ x y. add x y) a b (λ m s. refl)
adds LongUnsignedInt a b = computes_by (Add 5 5 6) (λ x y. add x y) a b (λ m s. refl)

-- a result of which the machine has the low bits
settles : (ty : ScalarType) (x : ℕ) (z : ℤ) (r : Value) → x < 2 ^ 64 → x % modulus ty ≡ low_of ty z → result_of ty z ≡ Some r → settled ty x ≡ form_of r
settles ty x z r h low e = settled_value ty x r h (if_some (λ (v : Value). v.ty ≡ ty) (result_of ty z) r (result_type ty z) e) (low ∙ sym (result_low ty z r e))

pub add_computes : BinaryComputes binary.Add
add_computes v u r nv nu fit e =
    let ty = v.ty in
    let x = add (form_of v) (form_of u) in
    let low = add_low ty (form_of v) (form_of u) ∙ ap₂ (λ (m n : ℕ). (m + n) % modulus ty) (form_low v) (low_at ty u fit) ∙ sym (low_sum ty v.num u.num) in
    computes_as (operation binary.Add ty) (form_of v) (form_of u) (settled ty x) (form_of r) (settles ty x (v.num +ℤ u.num) r (mod-lt (form_of v + form_of u) (pow_pos 64)) low e) (adds ty (form_of v) (form_of u))

-- ---- differences

subs : (ty : ScalarType) (a b : ℕ) → Computes (operation binary.Sub ty) a b (settled ty (sub a b))
subs Int a b = computes_by (Subw 5 5 6) (λ x y. of_word (sub x y)) a b (λ m s. refl)
subs UnsignedInt a b = computes_by (Subw 5 5 6) (λ x y. of_word (sub x y)) a b (λ m s. refl)
subs LongInt a b = computes_by (Sub 5 5 6) (λ x y. sub x y) a b (λ m s. refl)
subs LongUnsignedInt a b = computes_by (Sub 5 5 6) (λ x y. sub x y) a b (λ m s. refl)

minus_low : (ty : ScalarType) (x y : ℕ) → (x + (modulus ty - y)) % modulus ty ≡ (x + (modulus ty - y) % modulus ty) % modulus ty
minus_low Int x y = omega arith
minus_low UnsignedInt x y = omega arith
minus_low LongInt x y = omega arith
minus_low LongUnsignedInt x y = omega arith

pub sub_computes : BinaryComputes binary.Sub
sub_computes v u r nv nu fit e =
    let ty = v.ty in
    let x = sub (form_of v) (form_of u) in
    let m = low_of ty v.num in
    let n = low_of ty u.num in
    let low = sub_low ty (form_of v) (form_of u) (form_below u) ∙ ap₂ (λ (i j : ℕ). (i + (modulus ty - j)) % modulus ty) (form_low v) (low_at ty u fit)
    ∙ minus_low ty m n ∙ ap (λ j. (m + j) % modulus ty) (sym (low_negative ty u.num)) ∙ sym (low_sum ty v.num (neg_ℤ u.num)) in
    computes_as (operation binary.Sub ty) (form_of v) (form_of u) (settled ty x) (form_of r) (settles ty x (v.num -ℤ u.num) r (mod-lt (form_of v + (2 ^ 64 - form_of u)) (pow_pos 64)) low e) (subs ty (form_of v) (form_of u))

-- ---- products

muls : (ty : ScalarType) (a b : ℕ) → Computes (operation binary.Mul ty) a b (settled ty (mul a b))
muls Int a b = computes_by (Mulw 5 5 6) (λ x y. of_word (mul x y)) a b (λ m s. refl)
muls UnsignedInt a b = computes_by (Mulw 5 5 6) (λ x y. of_word (mul x y)) a b (λ m s. refl)
muls LongInt a b = computes_by (Mul 5 5 6) (λ x y. mul x y) a b (λ m s. refl)
muls LongUnsignedInt a b = computes_by (Mul 5 5 6) (λ x y. mul x y) a b (λ m s. refl)

pub mul_computes : BinaryComputes binary.Mul
mul_computes v u r nv nu fit e =
    let ty = v.ty in
    let x = mul (form_of v) (form_of u) in
    let low = mul_low ty (form_of v) (form_of u) ∙ ap₂ (λ (m n : ℕ). (m * n) % modulus ty) (form_low v) (low_at ty u fit) ∙ sym (low_product ty v.num u.num) in
    computes_as (operation binary.Mul ty) (form_of v) (form_of u) (settled ty x) (form_of r) (settles ty x (v.num *ℤ u.num) r (mod-lt (form_of v * form_of u) (pow_pos 64)) low e) (muls ty (form_of v) (form_of u))

-- ---- negation

negates : (ty : ScalarType) (a b : ℕ) → Computes (unary_operation unary.Neg ty) a b (settled ty (sub 0 a))
negates Int a b = computes_by (Subw 5 0 5) (λ x y. of_word (sub 0 x)) a b (λ m s. refl)
negates UnsignedInt a b = computes_by (Subw 5 0 5) (λ x y. of_word (sub 0 x)) a b (λ m s. refl)
negates LongInt a b = computes_by (Sub 5 0 5) (λ x y. sub 0 x) a b (λ m s. refl)
negates LongUnsignedInt a b = computes_by (Sub 5 0 5) (λ x y. sub 0 x) a b (λ m s. refl)

zero_minus : (ty : ScalarType) (y : ℕ) → (0 % modulus ty + (modulus ty - y)) % modulus ty ≡ (modulus ty - y) % modulus ty
zero_minus Int y = omega arith
zero_minus UnsignedInt y = omega arith
zero_minus LongInt y = omega arith
zero_minus LongUnsignedInt y = omega arith

pub neg_computes : UnaryComputes unary.Neg
neg_computes v r b nv e =
    let ty = v.ty in
    let x = sub 0 (form_of v) in
    let low = sub_low ty 0 (form_of v) (form_below v) ∙ zero_minus ty (form_of v % modulus ty) ∙ ap (λ n. (modulus ty - n) % modulus ty) (form_low v) ∙ sym (low_negative ty v.num) in
    computes_as (unary_operation unary.Neg ty) (form_of v) b (settled ty x) (form_of r) (settles ty x (neg_ℤ v.num) r (mod-lt (0 + (2 ^ 64 - form_of v)) (pow_pos 64)) low e) (negates ty (form_of v) b)

-- ---- complement

-- all bits turned over
turned_over : (k n : ℕ) → n < 2 ^ k → bit_xor n (2 ^ k - 1) ≡ 2 ^ k - 1 - n
turned_over zero n h = let none : n ≡ 0 = omega (arith, h) in ap (λ x. bit_xor x 0) none ∙ omega (arith, none)
turned_over (suc k) n h =
    let power : 2 ^ suc k ≡ 2 * 2 ^ k = omega arith in
    let some = pow_pos k in
    let high = n / 2 in
    let low = n % 2 in
    let parts : n ≡ high * 2 ^ 1 + low = omega arith in
    let ones : 2 ^ suc k - 1 ≡ (2 ^ k - 1) * 2 ^ 1 + 1 = omega (arith, power, some) in
    let less : high < 2 ^ k = omega (arith, h, power) in
    ap₂ bit_xor parts ones ∙ xor_block 1 high (2 ^ k - 1) low 1 (omega arith) (omega arith) ∙ ap₂ (λ (x y : ℕ). x * 2 ^ 1 + y) (turned_over k high less) (one_bit low (omega arith)) ∙ omega (arith, power, some, less)
  where
    one_bit : (n : ℕ) → n < 2 → bit_xor n 1 ≡ 1 - n
    one_bit zero h = refl
    one_bit (suc zero) h = refl
    one_bit (suc (suc n)) h = absurd (omega (arith, h))

-- a word with its sign, turned over, is one
word_turned : (f : ℕ) → f < 2 ^ 64 → of_word f ≡ f → of_word (2 ^ 64 - 1 - f) ≡ 2 ^ 64 - 1 - f
word_turned f h e = grind (arith, nat_tests)

turned_low : (ty : ScalarType) (f : ℕ) → f < 2 ^ 64 → (2 ^ 64 - 1 - f) % modulus ty ≡ modulus ty - 1 - f % modulus ty
turned_low Int f h = omega (arith, h)
turned_low UnsignedInt f h = omega (arith, h)
turned_low LongInt f h = omega (arith, h)
turned_low LongUnsignedInt f h = omega (arith, h)

-- a form has the sign of its type already
pub form_settled : (v : Value) → settled v.ty (form_of v) ≡ form_of v
form_settled v = settled_form v.ty (form_of v) v.num (form_below v) (form_low v)

turned_settled : (ty : ScalarType) (f : ℕ) → f < 2 ^ 64 → settled ty f ≡ f → settled ty (2 ^ 64 - 1 - f) ≡ 2 ^ 64 - 1 - f
turned_settled Int f h e = word_turned f h e
turned_settled UnsignedInt f h e = word_turned f h e
turned_settled LongInt f h e = refl
turned_settled LongUnsignedInt f h e = refl

pub not_computes : UnaryComputes unary.Not
not_computes v r b nv e =
    let ty = v.ty in
    let f = form_of v in
    let n = modulus ty - 1 - values.residue ty v.num in
    let made = some_same (value_of ty (from_residue ty n)) r e in
    let x = 2 ^ 64 - 1 - f in
    let small = low_lt ty v.num in
    let same = residue_same ty v.num in
    let low : x % modulus ty ≡ low_of ty (from_residue ty n) = turned_low ty f (form_below v) ∙ ap (λ k. modulus ty - 1 - k) (form_low v ∙ sym same) ∙ sym (from_low ty n (omega (arith, small, same, pow_pos (values.width ty)))) in
    let is : bit_xor f (2 ^ 64 - 1) ≡ form_of r = turned_over 64 f (form_below v) ∙ sym (turned_settled ty f (form_below v) (form_settled v)) ∙ settled_form ty x (from_residue ty n) (omega arith) low ∙ ap form_of made in
    computes_as (unary_operation unary.Not ty) f b (bit_xor f (2 ^ 64 - 1)) (form_of r) is (computes_by (Xori 5 5 (negsuc 0)) (λ y z. bit_xor y (2 ^ 64 - 1)) f b (λ m s. refl))

-- ---- conversions

-- the low 32 bits of a form, of any type
low_word : (v : Value) → form_of v % 2 ^ 32 ≡ residue (2 ^ 32) v.num
low_word v = of_type v.ty v.num (form_low v)
  where
    long_low : (f : ℕ) (z : ℤ) → f % 2 ^ 64 ≡ residue (2 ^ 64) z → f % 2 ^ 32 ≡ residue (2 ^ 32) z
    long_low f (pos n) e = omega (arith, e)
    long_low f (negsuc n) e = omega (arith, e)

    of_type : (ty : ScalarType) (z : ℤ) → form_of (value_of ty z) % modulus ty ≡ low_of ty z → form_of (value_of ty z) % 2 ^ 32 ≡ residue (2 ^ 32) z
    of_type Int z e = e
    of_type UnsignedInt z e = e
    of_type LongInt z e = long_low (form_of (value_of LongInt z)) z e
    of_type LongUnsignedInt z e = long_low (form_of (value_of LongUnsignedInt z)) z e

plus_none : (f : ℕ) → f < 2 ^ 64 → plus f (pos 0) ≡ f
plus_none f h = omega (arith, h)

-- to 32 bits
to_word : (ty : ScalarType) (v : Value) (z : ℤ) → form_of v % modulus ty ≡ low_of ty z → (x : ℕ) → x ≡ form_of v → settled ty x ≡ form_of (value_of ty (reduced ty z))
to_word ty v z low x e = settled_form ty x (reduced ty z) (subst (λ n. n < 2 ^ 64) (sym e) (form_below v)) (ap (λ n. n % modulus ty) e ∙ low ∙ sym (reduced_low ty z))

-- to 64 bits, whose bits are these
to_long : (x : ℕ) (z : ℤ) → x ≡ residue (2 ^ 64) z → (x ≡ form_of (value_of LongInt (reduced LongInt z))) × (x ≡ form_of (value_of LongUnsignedInt (reduced LongUnsignedInt z)))
to_long x z e =
    let small : x < 2 ^ 64 = subst (λ n. n < 2 ^ 64) (sym e) (low_lt LongInt z) in
    let same : x % 2 ^ 64 ≡ x = omega (arith, small) in
    (settled_form LongInt x (reduced LongInt z) small (same ∙ e ∙ sym (reduced_low LongInt z)), settled_form LongUnsignedInt x (reduced LongUnsignedInt z) small (same ∙ e ∙ sym (reduced_low LongUnsignedInt z)))

unsigned_bits : (z : ℤ) → InRange UnsignedInt z → residue (2 ^ 32) z ≡ residue (2 ^ 64) z
unsigned_bits (pos n) h = let small : n < 2 ^ 32 = omega (arith, ints) in omega (arith, small)
unsigned_bits (negsuc n) h = absurd (omega (arith, ints))

signed_bits : (z : ℤ) → InRange Int z → bits64 (signed (2 ^ 32) (residue (2 ^ 32) z)) ≡ residue (2 ^ 64) z
signed_bits z h = ap bits64 (signed-residue (2 ^ 32) z refl (in_word z h))
  where
    in_word : (z : ℤ) → InRange Int z → IsSigned (2 ^ 32) z
    in_word (pos n) h = omega (arith, ints)
    in_word (negsuc n) h = omega (arith, ints)

shifted : (f : ℕ) → f * 2 ^ 32 % 2 ^ 64 / 2 ^ 32 ≡ f % 2 ^ 32
shifted f = omega arith

-- the code of a conversion to 64 bits leaves the number's bits
long_computes : (ty : ScalarType) (z : ℤ) (b : ℕ) → InRange ty z → Computes (conversion LongInt ty) (form_of (value_of ty z)) b (residue (2 ^ 64) z)
long_computes Int z b h = let f = form_of (value_of Int z) in computes_as [] f b f (residue (2 ^ 64) z) (signed_bits z h) (computes_none f b)
long_computes UnsignedInt z b h =
    let f = form_of (value_of UnsignedInt z) in
    let up = f * 2 ^ 32 % 2 ^ 64 in
    computes_as (conversion LongInt UnsignedInt) f b (up / 2 ^ 32) (residue (2 ^ 64) z) (shifted f ∙ form_low (value_of UnsignedInt z) ∙ unsigned_bits z h)
    (computes_on (Slli 5 5 (pos 32) ∷ []) (Srli 5 5 (pos 32) ∷ []) f b up (up / 2 ^ 32)
    (computes_by (Slli 5 5 (pos 32)) (λ x y. x * 2 ^ 32 % 2 ^ 64) f b (λ m s. refl)) (computes_by (Srli 5 5 (pos 32)) (λ x y. x / 2 ^ 32) up b (λ m s. refl)))
long_computes LongInt z b h =
    let f = form_of (value_of LongInt z) in
    computes_as [] f b f (residue (2 ^ 64) z) (whole f (residue (2 ^ 64) z) (form_below (value_of LongInt z)) (form_low (value_of LongInt z))) (computes_none f b)
  where
    whole : (f n : ℕ) → f < 2 ^ 64 → f % 2 ^ 64 ≡ n → f ≡ n
    whole f n h e = omega (arith, h, e)
long_computes LongUnsignedInt z b h =
    let f = form_of (value_of LongUnsignedInt z) in
    computes_as [] f b f (residue (2 ^ 64) z) (whole f (residue (2 ^ 64) z) (form_below (value_of LongUnsignedInt z)) (form_low (value_of LongUnsignedInt z))) (computes_none f b)
  where
    whole : (f n : ℕ) → f < 2 ^ 64 → f % 2 ^ 64 ≡ n → f ≡ n
    whole f n h e = omega (arith, h, e)

word_computes : (a b : ℕ) → Computes (Addiw 5 5 (pos 0) ∷ []) a b (of_word (plus a (pos 0)))
word_computes a b = computes_by (Addiw 5 5 (pos 0)) (λ x y. of_word (plus x (pos 0))) a b (λ m s. refl)

long_code : (ty : ScalarType) → conversion LongUnsignedInt ty ≡ conversion LongInt ty
long_code Int = refl
long_code UnsignedInt = refl
long_code LongInt = refl
long_code LongUnsignedInt = refl

pub convert_computes : ConversionComputes
convert_computes Int v b nv = let f = form_of v in computes_as (conversion Int v.ty) f b (of_word (plus f (pos 0))) (form_of (convert_of Int v)) (to_word Int v v.num (low_word v) (plus f (pos 0)) (plus_none f (form_below v))) (word_computes f b)
convert_computes UnsignedInt v b nv =
    let f = form_of v in
    computes_as (conversion UnsignedInt v.ty) f b (of_word (plus f (pos 0))) (form_of (convert_of UnsignedInt v)) (to_word UnsignedInt v v.num (low_word v) (plus f (pos 0)) (plus_none f (form_below v))) (word_computes f b)
convert_computes LongInt v b nv =
    computes_as (conversion LongInt v.ty) (form_of v) b (residue (2 ^ 64) v.num) (form_of (convert_of LongInt v)) (to_long (residue (2 ^ 64) v.num) v.num refl).0 (long_computes v.ty v.num b nv)
convert_computes LongUnsignedInt v b nv =
    subst (λ code. Computes code (form_of v) b (form_of (convert_of LongUnsignedInt v))) (sym (long_code v.ty))
    (computes_as (conversion LongInt v.ty) (form_of v) b (residue (2 ^ 64) v.num) (form_of (convert_of LongUnsignedInt v)) (to_long (residue (2 ^ 64) v.num) v.num refl).1 (long_computes v.ty v.num b nv))

-- ---- equal forms

-- a number of the type is that of its low bits
pub number_of_low : (ty : ScalarType) (z : ℤ) → InRange ty z → from_residue ty (low_of ty z) ≡ z
number_of_low Int (pos n) h = grind (arith, nat_tests, ints)
number_of_low Int (negsuc n) h = grind (arith, nat_tests, ints)
number_of_low UnsignedInt (pos n) h = grind (arith, nat_tests, ints)
number_of_low UnsignedInt (negsuc n) h = absurd (omega (arith, ints))
number_of_low LongInt (pos n) h = grind (arith, nat_tests, ints)
number_of_low LongInt (negsuc n) h = grind (arith, nat_tests, ints)
number_of_low LongUnsignedInt (pos n) h = grind (arith, nat_tests, ints)
number_of_low LongUnsignedInt (negsuc n) h = absurd (omega (arith, ints))

pub number_of_form : (v u : Value) → IsValue v → IsValue u → v.ty ≡ u.ty → form_of v ≡ form_of u → u.num ≡ v.num
number_of_form v u nv nu same e =
    let ty = v.ty in
    let in_type : InRange ty u.num = subst (λ k. InRange k u.num) (sym same) nu in
    let low : low_of ty u.num ≡ low_of ty v.num = sym (low_at ty u same) ∙ ap (λ n. n % modulus ty) (sym e) ∙ form_low v in
    sym (number_of_low ty u.num in_type) ∙ ap (from_residue ty) low ∙ number_of_low ty v.num nv

pub form_of_number : (v u : Value) → v.ty ≡ u.ty → u.num ≡ v.num → form_of v ≡ form_of u
form_of_number v u same e = ap (λ (k : ScalarType). form_of (value_of k v.num)) same ∙ ap (λ (z : ℤ). form_of (value_of u.ty z)) (sym e)

pub same_forms : SameForms
same_forms v u nv nu same =
    let forms = Decides-eqb (form_of v) (form_of u) in
    same_from_decides (form_of v == form_of u) (int_eq u.num v.num)
    (Decides-like (form_of v == form_of u) (λ e. number_of_form v u nv nu same e) (λ e. form_of_number v u same e) forms) (Decides-int_eq u.num v.num)
