-- Upper and lower parts put together.
use Rattle.std.proofs.Common.{◌≡◌, ℕ, suc, ◌+◌, ◌-◌, ◌*◌, ◌%◌, ◌^◌, ◌<◌, ℤ, pos, negsuc, ◌-ℤ◌, ◌<ℤ◌, true, inl, inr, sym, ap, ◌∙◌, arith}
use Rattle.std.proofs.lemmas.Int.{ints}
use Rattle.std.proofs.lemmas.Bool.{cases_lt}
use Rattle.std.proofs.lemmas.Bool.Decides.{nat_tests}
use borrow.Author.Tests.{ltb-true}
use Rattle.rv64_isa.specs.Format.{IsSigned}
use Rattle.rv64_meaning.specs.Arithmetic.{plus, of_word, upper, add, bits64}
use Rattle.rv64_abi.specs.Offsets.{hi, lo, upper_of}
use Rattle.rv64_select.specs.Templates.{is_signed_in}

-- an address below 2 ^ 31 - 2048
pub address_parts : (a : ℕ) → a < 2 ^ 31 - 2 ^ 11 → plus (upper (upper_of (pos a))) (lo (pos a)) ≡ a
address_parts a h = grind (arith, nat_tests, ints)

-- an offset from a register
pub offset_parts : (a b : ℕ) → a < 2 ^ 31 - 2 ^ 11 → b + a < 2 ^ 64 → plus (add (upper (upper_of (pos a))) b) (lo (pos a)) ≡ b + a
offset_parts a b h k = grind (arith, nat_tests, ints)

-- a number of 32 bits by lui and addiw
word_parts_pos : (n : ℕ) → n < 2 ^ 31 → of_word (plus (upper (upper_of (pos n))) (lo (pos n))) ≡ n
word_parts_pos n h = grind (arith, nat_tests, ints)

word_parts_neg : (n : ℕ) → n < 2 ^ 31 → of_word (plus (upper (upper_of (negsuc n))) (lo (negsuc n))) ≡ 2 ^ 64 - suc n
word_parts_neg n h = grind (arith, nat_tests, ints)

residue_pos : (n : ℕ) → n < 2 ^ 64 → bits64 (pos n) ≡ n
residue_pos n h = omega arith

pub word_parts : (c : ℤ) → IsSigned (2 ^ 32) c → of_word (plus (upper (upper_of c)) (lo c)) ≡ bits64 c
word_parts (pos n) h = word_parts_pos n h ∙ sym (residue_pos n (omega arith))
word_parts (negsuc n) h = word_parts_neg n h ∙ omega arith

-- an upper part of more bits, shifted, and its lower part
shifted_pos : (n : ℕ) → n < 2 ^ 63 → plus (bits64 (hi (pos n)) * 4096 % 2 ^ 64) (lo (pos n)) ≡ n
shifted_pos n h = grind (arith, nat_tests, ints)

shifted_neg : (n : ℕ) → n < 2 ^ 63 → plus (bits64 (hi (negsuc n)) * 4096 % 2 ^ 64) (lo (negsuc n)) ≡ 2 ^ 64 - suc n
shifted_neg n h = grind (arith, nat_tests, ints)

pub shifted_parts : (c : ℤ) → IsSigned (2 ^ 64) c → plus (bits64 (hi c) * 4096 % 2 ^ 64) (lo c) ≡ bits64 c
shifted_parts (pos n) h = shifted_pos n h ∙ sym (residue_pos n (omega arith))
shifted_parts (negsuc n) h = shifted_neg n h ∙ omega arith

-- a short number, by addi from x0
pub from_zero : (c : ℤ) → plus 0 c ≡ bits64 c
from_zero (pos n) = omega arith
from_zero (negsuc n) = omega arith

-- a distance forwards, and one backwards
far_forwards : (a d : ℕ) → a < 2 ^ 30 → d < 2 ^ 30 → plus (add a (upper (upper_of (pos d)))) (lo (pos d)) ≡ a + d
far_forwards a d h k = grind (arith, nat_tests, ints)

far_backwards : (b d : ℕ) → b + suc d < 2 ^ 30 → plus (add (b + suc d) (upper (upper_of (negsuc d)))) (lo (negsuc d)) ≡ b
far_backwards b d h = grind (arith, nat_tests, ints)

-- a call reaches its target
pub distance : (from to : ℕ) → from < 2 ^ 30 → to < 2 ^ 30 → plus (add from (upper (upper_of (pos to -ℤ pos from)))) (lo (pos to -ℤ pos from)) ≡ to
distance from to h k =
    elim (cases_lt to from) [
      | inl p ↦
          let d = from - suc to in
          let e : pos to -ℤ pos from ≡ negsuc d = omega (arith, ints) in
          let f : to + suc d ≡ from = omega arith in
          ap (λ z. plus (add from (upper (upper_of z))) (lo z)) e ∙ ap (λ a. plus (add a (upper (upper_of (negsuc d)))) (lo (negsuc d))) (sym f) ∙ far_backwards to d (omega arith)
      | inr p ↦
          let d = to - from in
          let e : pos to -ℤ pos from ≡ pos d = omega (arith, ints) in
          let f : from + d ≡ to = omega arith in
          ap (λ z. plus (add from (upper (upper_of z))) (lo z)) e ∙ far_forwards from d h (omega arith) ∙ f
    ]

-- ---- ranges

pub signed_by : (half : ℕ) (z : ℤ) → z <ℤ pos half → negsuc half <ℤ z → IsSigned (half + half) z
signed_by half (pos n) h l = omega (arith, ints)
signed_by half (negsuc n) h l = omega (arith, ints)

pub signed_12 : (c : ℤ) → is_signed_in 12 c ≡ true → IsSigned (2 ^ 12) c
signed_12 (pos n) h = ltb-true n 2048 h
signed_12 (negsuc n) h = ltb-true n 2048 h

pub signed_32 : (c : ℤ) → is_signed_in 32 c ≡ true → IsSigned (2 ^ 32) c
signed_32 (pos n) h = ltb-true n (2 ^ 31) h
signed_32 (negsuc n) h = ltb-true n (2 ^ 31) h

-- the upper part of a number has 11 bits less, at least
pub hi_43 : (c : ℤ) → IsSigned (2 ^ 43) c → IsSigned (2 ^ 32) (hi c)
hi_43 (pos n) h = signed_by (2 ^ 31) (hi (pos n)) (omega (arith, ints)) (omega (arith, ints))
hi_43 (negsuc n) h = signed_by (2 ^ 31) (hi (negsuc n)) (grind (arith, nat_tests, ints)) (grind (arith, nat_tests, ints))

pub hi_54 : (c : ℤ) → IsSigned (2 ^ 54) c → IsSigned (2 ^ 43) (hi c)
hi_54 (pos n) h = signed_by (2 ^ 42) (hi (pos n)) (omega (arith, ints)) (omega (arith, ints))
hi_54 (negsuc n) h = signed_by (2 ^ 42) (hi (negsuc n)) (grind (arith, nat_tests, ints)) (grind (arith, nat_tests, ints))

pub hi_64 : (c : ℤ) → IsSigned (2 ^ 64) c → IsSigned (2 ^ 54) (hi c)
hi_64 (pos n) h = signed_by (2 ^ 53) (hi (pos n)) (omega (arith, ints)) (omega (arith, ints))
hi_64 (negsuc n) h = signed_by (2 ^ 53) (hi (negsuc n)) (grind (arith, nat_tests, ints)) (grind (arith, nat_tests, ints))
