-- The numbers that instructions compute (unprivileged manual 20191213, sections 2.4, 5.2, 7.1 and 7.2): registers hold numbers
-- below 2 ^ 64, which are read with or without a sign. Division by zero gives all ones and leaves the dividend; the least number
-- by -1 gives itself, since results are taken modulo 2 ^ 64.
use Rattle.std.specs.Prelude.{ℕ, ◌+◌, ◌-◌, ◌*◌, ◌/◌, ◌%◌, ◌^◌, ℤ, pos, ◌*ℤ◌, Bool, int_div, int_rem, if◌then◌else◌, ◌==◌, nat_lt}
use Rattle.std.specs.Int.{int_shr}
use Rattle.rv64_isa.specs.Format.{residue, signed}

-- 64 bits as a number with its sign, and back
abbrev pub signed64 : ℕ → ℤ
signed64 v = signed (2 ^ 64) v

abbrev pub bits64 : ℤ → ℕ
bits64 z = residue (2 ^ 64) z

-- the low bits, m values of them, with their sign
abbrev pub sign_extended : ℕ → ℕ → ℕ
sign_extended m v = let w = v % m in if nat_lt w (m / 2) then w else w + (2 ^ 64 - m)

abbrev pub of_word : ℕ → ℕ
of_word v = sign_extended (2 ^ 32) v

-- the low 32 bits, without and with their sign
abbrev pub low : ℕ → ℕ
low v = v % 2 ^ 32

abbrev pub signed_low : ℕ → ℤ
signed_low v = signed (2 ^ 32) (low v)

-- a register and an immediate, or a place and an offset
abbrev pub plus : ℕ → ℤ → ℕ
plus v z = (v + bits64 z) % 2 ^ 64

-- the 20-bit field of lui and auipc in its place
abbrev pub upper : ℤ → ℕ
upper imm = of_word (residue (2 ^ 20) imm * 2 ^ 12)

abbrev pub add : ℕ → ℕ → ℕ
add a b = (a + b) % 2 ^ 64

abbrev pub sub : ℕ → ℕ → ℕ
sub a b = (a + (2 ^ 64 - b)) % 2 ^ 64

-- the orders, and a test as a number
abbrev pub less_signed : ℕ → ℕ → Bool
less_signed a b = nat_lt ((a + 2 ^ 63) % 2 ^ 64) ((b + 2 ^ 63) % 2 ^ 64)

abbrev pub bit : Bool → ℕ
bit b = if b then 1 else 0

-- shifts, by the low six bits
abbrev pub sll : ℕ → ℕ → ℕ
sll a b = a * 2 ^ (b % 64) % 2 ^ 64

abbrev pub srl : ℕ → ℕ → ℕ
srl a b = a / 2 ^ (b % 64)

abbrev pub sra : ℕ → ℕ → ℕ
sra a b = bits64 (int_shr (signed64 a) (b % 64))

-- shifts of the low word, by the low five bits
abbrev pub sllw : ℕ → ℕ → ℕ
sllw a b = of_word (a * 2 ^ (b % 32))

abbrev pub srlw : ℕ → ℕ → ℕ
srlw a b = of_word (low a / 2 ^ (b % 32))

abbrev pub sraw : ℕ → ℕ → ℕ
sraw a b = bits64 (int_shr (signed_low a) (b % 32))

-- products: the low half, and the high halves
abbrev pub mul : ℕ → ℕ → ℕ
mul a b = a * b % 2 ^ 64

abbrev pub mulh : ℕ → ℕ → ℕ
mulh a b = bits64 (int_shr (signed64 a *ℤ signed64 b) 64)

abbrev pub mulhsu : ℕ → ℕ → ℕ
mulhsu a b = bits64 (int_shr (signed64 a *ℤ pos b) 64)

abbrev pub mulhu : ℕ → ℕ → ℕ
mulhu a b = a * b / 2 ^ 64

-- quotients and remainders, towards zero
abbrev pub div : ℕ → ℕ → ℕ
div a b = if b == 0 then 2 ^ 64 - 1 else bits64 (int_div (signed64 a) (signed64 b))

abbrev pub divu : ℕ → ℕ → ℕ
divu a b = if b == 0 then 2 ^ 64 - 1 else a / b

abbrev pub rem : ℕ → ℕ → ℕ
rem a b = if b == 0 then a else bits64 (int_rem (signed64 a) (signed64 b))

abbrev pub remu : ℕ → ℕ → ℕ
remu a b = if b == 0 then a else a % b

-- the same of low words
abbrev pub divw : ℕ → ℕ → ℕ
divw a b = if low b == 0 then 2 ^ 64 - 1 else of_word (bits64 (int_div (signed_low a) (signed_low b)))

abbrev pub divuw : ℕ → ℕ → ℕ
divuw a b = if low b == 0 then 2 ^ 64 - 1 else of_word (low a / low b)

abbrev pub remw : ℕ → ℕ → ℕ
remw a b = if low b == 0 then of_word a else bits64 (int_rem (signed_low a) (signed_low b))

abbrev pub remuw : ℕ → ℕ → ℕ
remuw a b = if low b == 0 then of_word a else of_word (low a % low b)
