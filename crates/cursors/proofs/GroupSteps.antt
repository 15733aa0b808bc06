-- The number of a group, one byte after the other.
use Rattle.std.proofs.Common.{◌≡◌, ℕ, zero, suc, ◌+◌, ◌*◌, ◌%◌, ◌^◌, ◌<◌, ◌≤◌, List, [], ◌∷◌, length, get_or, drop, refl, arith, drop-cons}
use Rattle.cursors.specs.Leb128.{number_of}

number_at_drop : (bytes : List ℕ) (i : ℕ) → i < length bytes → number_of (drop i bytes) ≡ number_of (drop (suc i) bytes) * 128 + get_or bytes i 0 % 128
number_at_drop bytes i lt = rw (drop-cons bytes i 0 lt) refl

number_above : (bytes : List ℕ) (i : ℕ) → number_of (drop i bytes) ≤ number_of bytes
number_above bytes zero = omega arith
number_above [] (suc i) = omega arith
number_above (b ∷ bs) (suc i) = omega (arith, number_above bs i)

-- where the high part is too wide, the whole is
pub too_wide : (bytes : List ℕ) (place : ℕ) → 0 < place → place ≤ length bytes → 2 ^ 57 ≤ number_of (drop place bytes) → 2 ^ 64 ≤ number_of bytes
too_wide bytes zero lt le wide = absurd (omega arith)
too_wide bytes (suc i) lt le wide = omega (arith, number_at_drop bytes i (omega arith), number_above bytes i)
