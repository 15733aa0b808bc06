-- Bitwise operations on two numbers of a type, by their 64 bits: a number of 32 bits has its highest bit 33 times.
use Rattle.std.proofs.Common.{◌≡◌, ℕ, zero, suc, ◌+◌, ◌-◌, ◌*◌, ◌/◌, ◌%◌, ◌^◌, ◌<◌, ℤ, refl, sym, ap, ap₂, ◌∙◌, arith}
use Rattle.std.specs.Prelude.{bit_and, bit_or, bit_xor}
use Rattle.std.proofs.lemmas.Nat.{and_le_l, and_block, or_block, xor_block, or_lt, xor_lt}
use Rattle.std.proofs.lemmas.Bool.Decides.{nat_tests}
use Rattle.gimple_ir.specs.Values.{modulus, width, from_residue}
use Rattle.gimple_ir.specs.Values as values
use Rattle.gimple_ir.specs.declared.types.ScalarType.{ScalarType}
use Rattle.gimple_ir.specs.declared.types.ScalarType.TheVariants.{Int, UnsignedInt, LongInt, LongUnsignedInt}
use Rattle.rv64_meaning.specs.Arithmetic.{of_word}
use Rattle.follow_laws.proofs.Forms.{low_of, low_lt, residue_same, settled}
use Rattle.follow_laws.proofs.Numbers.{form, form_is, form_from}

-- an operation that takes the bits of two numbers place by place, and gives no bit of two that are not set
pub record Bitwise (op : ℕ → ℕ → ℕ) : Type 0 where
  pub block : (k a b r s : ℕ) → r < 2 ^ k → s < 2 ^ k → op (a * 2 ^ k + r) (b * 2 ^ k + s) ≡ op a b * 2 ^ k + op r s
  pub below : (k a b : ℕ) → a < 2 ^ k → b < 2 ^ k → op a b < 2 ^ k
  pub ones : (a b : ℕ) → a < 2 → b < 2 → op (a * (2 ^ 33 - 1)) (b * (2 ^ 33 - 1)) ≡ op a b * (2 ^ 33 - 1)

of_bits : (P : ℕ → ℕ → Type 0) → P 0 0 → P 0 1 → P 1 0 → P 1 1 → (a b : ℕ) → a < 2 → b < 2 → P a b
of_bits P p q r s zero zero h j = p
of_bits P p q r s zero (suc zero) h j = q
of_bits P p q r s zero (suc (suc b)) h j = absurd (omega arith)
of_bits P p q r s (suc zero) zero h j = r
of_bits P p q r s (suc zero) (suc zero) h j = s
of_bits P p q r s (suc zero) (suc (suc b)) h j = absurd (omega arith)
of_bits P p q r s (suc (suc a)) b h j = absurd (omega arith)

pub and_bitwise : Bitwise bit_and
and_bitwise = record {
  block = and_block;
  below = λ k a b h j. omega (arith, and_le_l a b);
  ones = of_bits (λ a b. bit_and (a * (2 ^ 33 - 1)) (b * (2 ^ 33 - 1)) ≡ bit_and a b * (2 ^ 33 - 1)) refl refl refl refl;
}

pub or_bitwise : Bitwise bit_or
or_bitwise = record {
  block = or_block;
  below = or_lt;
  ones = of_bits (λ a b. bit_or (a * (2 ^ 33 - 1)) (b * (2 ^ 33 - 1)) ≡ bit_or a b * (2 ^ 33 - 1)) refl refl refl refl;
}

pub xor_bitwise : Bitwise bit_xor
xor_bitwise = record {
  block = xor_block;
  below = xor_lt;
  ones = of_bits (λ a b. bit_xor (a * (2 ^ 33 - 1)) (b * (2 ^ 33 - 1)) ≡ bit_xor a b * (2 ^ 33 - 1)) refl refl refl refl;
}

-- ---- words

-- the highest bit, and the others
parts : (n : ℕ) → n ≡ n / 2 ^ 31 * 2 ^ 31 + n % 2 ^ 31
parts n = omega arith

extended_parts : (bit rest : ℕ) → bit < 2 → rest < 2 ^ 31 → of_word (bit * 2 ^ 31 + rest) ≡ bit * (2 ^ 33 - 1) * 2 ^ 31 + rest
extended_parts zero rest h j = grind (arith, nat_tests)
extended_parts (suc zero) rest h j = grind (arith, nat_tests)
extended_parts (suc (suc bit)) rest h j = absurd (omega arith)

words : (op : ℕ → ℕ → ℕ) → Bitwise op → (n k : ℕ) → n < 2 ^ 32 → k < 2 ^ 32 → op (of_word n) (of_word k) ≡ of_word (op n k)
words op bits n k h j =
    let a = n / 2 ^ 31 in
    let b = k / 2 ^ 31 in
    let r = n % 2 ^ 31 in
    let s = k % 2 ^ 31 in
    let a_lt : a < 2 = omega (arith, h) in
    let b_lt : b < 2 = omega (arith, j) in
    let r_lt : r < 2 ^ 31 = omega arith in
    let s_lt : s < 2 ^ 31 = omega arith in
    let left = ap of_word (parts n) ∙ extended_parts a r a_lt r_lt in
    let right = ap of_word (parts k) ∙ extended_parts b s b_lt s_lt in
    let whole = ap₂ op (parts n) (parts k) ∙ bits.block 31 a b r s r_lt s_lt in
    let highest = bits.below 1 a b a_lt b_lt in
    let others = bits.below 31 r s r_lt s_lt in
    ap₂ op left right ∙ bits.block 31 (a * (2 ^ 33 - 1)) (b * (2 ^ 33 - 1)) r s r_lt s_lt ∙ ap (λ x. x * 2 ^ 31 + op r s) (bits.ones a b a_lt b_lt)
    ∙ sym (extended_parts (op a b) (op r s) highest others) ∙ ap of_word (sym whole)

-- ---- numbers of a type

pub settled_bits : (op : ℕ → ℕ → ℕ) → Bitwise op → (ty : ScalarType) (n k : ℕ) → n < modulus ty → k < modulus ty → op (settled ty n) (settled ty k) ≡ settled ty (op n k)
settled_bits op bits Int n k h j = words op bits n k h j
settled_bits op bits UnsignedInt n k h j = words op bits n k h j
settled_bits op bits LongInt n k h j = refl
settled_bits op bits LongUnsignedInt n k h j = refl

pub bits_form : (op : ℕ → ℕ → ℕ) → Bitwise op → (ty : ScalarType) (x y : ℤ) → op (form ty x) (form ty y) ≡ form ty (from_residue ty (op (values.residue ty x) (values.residue ty y)))
bits_form op bits ty x y =
    let n = low_of ty x in
    let k = low_of ty y in
    let n_lt = low_lt ty x in
    let k_lt = low_lt ty y in
    ap₂ op (form_is ty x) (form_is ty y) ∙ settled_bits op bits ty n k n_lt k_lt ∙ sym (form_from ty (op n k) (bits.below (width ty) n k n_lt k_lt))
    ∙ ap₂ (λ i j. form ty (from_residue ty (op i j))) (sym (residue_same ty x)) (sym (residue_same ty y))
