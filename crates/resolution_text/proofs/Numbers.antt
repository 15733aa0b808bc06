-- Hexadecimal digits, one after the other.
use Rattle.std.proofs.Common.{◌≡◌, ℕ, zero, suc, ◌+◌, ◌*◌, ◌/◌, ◌%◌, ◌^◌, ◌<◌, ◌≤◌, ◌==◌, Bool, true, false, cond, List, [], ◌∷◌, length, ap, lit≤, arith}
use Rattle.std.specs.Fmt.{digits, digits_onto, digit_glyph}
use Rattle.std.specs.Str.Parse.{digits_value, IsNumeral}
use Rattle.std.proofs.lemmas.Fmt.{digits_is_IsNumeral}
use Rattle.std.proofs.lemmas.Nat.{pow-add}
use lib.Pow.{pow_mono}

-- there is room for one more hexadecimal digit
pub room : (n d i : ℕ) → n < 2 ^ (4 * i) → d < 16 → n * 16 + d < 2 ^ (4 * (i + 1))
room n d i lt digit =
    let step : 2 ^ (4 * i + 4) ≡ 2 ^ (4 * i) * 2 ^ 4 = pow-add 2 (4 * i) 4 in
    let same : 2 ^ (4 * (i + 1)) ≡ 2 ^ (4 * i + 4) = ap (λ k. 2 ^ k) (omega arith) in
    omega arith

pub fits : (n i : ℕ) → n < 2 ^ (4 * i) → i ≤ 16 → n < 2 ^ 64
fits n i lt le = let most : 2 ^ (4 * i) ≤ 2 ^ 64 = pow_mono {i = 4 * i} {j = 64} (omega arith) in omega arith

short_by : (t : Bool) (i x : ℕ) (more acc : List ℕ) → length more ≤ i + 1 + length (x ∷ acc) → length (cond t (x ∷ acc) more) ≤ suc i + 1 + length acc
short_by true i x more acc h = omega arith
short_by false i x more acc h = omega arith

-- so many digits write a number below this power
short : (k i n : ℕ) (acc : List ℕ) → n < 2 ^ (4 * (i + 1)) → length (digits_onto k 16 false n acc) ≤ i + 1 + length acc
short zero i n acc lt = omega arith
short (suc k) zero n acc lt = let small : n / 16 ≡ 0 = omega arith in rw small (omega arith)
short (suc k) (suc i) n acc lt =
    let step : 2 ^ (4 * (i + 1) + 4) ≡ 2 ^ (4 * (i + 1)) * 2 ^ 4 = pow-add 2 (4 * (i + 1)) 4 in
    let same : 2 ^ (4 * (suc i + 1)) ≡ 2 ^ (4 * (i + 1) + 4) = ap (λ j. 2 ^ j) (omega arith) in
    let less : n / 16 < 2 ^ (4 * (i + 1)) = omega arith in
    short_by (n / 16 == 0) i (digit_glyph false (n % 16)) (digits_onto k 16 false (n / 16) (digit_glyph false (n % 16) ∷ acc)) acc (short k i (n / 16) (digit_glyph false (n % 16) ∷ acc) less)

pub length-digits : (n : ℕ) → n < 2 ^ 64 → length (digits 16 false n) ≤ 16
unfolding digits
length-digits n lt = short 64 15 n [] lt

pub digits_of_id : (n : ℕ) → n < 2 ^ 64 → IsNumeral 16 (digits 16 false n) × (digits_value 16 (digits 16 false n) ≡ n)
digits_of_id n lt = digits_is_IsNumeral 16 false (lit≤ tt) (lit≤ tt) n (let most : 2 ^ 64 ≤ 16 ^ 64 = lit≤ tt in omega arith)
