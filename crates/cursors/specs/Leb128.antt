-- Unsigned LEB128 (DWARF, section 7.6) in its shortest form: seven bits a byte, the low ones first; each byte but the last
-- is 128 or more. The grammar stands apart from the spelling as a function and from what a reader looks at.
use Rattle.std.specs.Prelude.{◌≡◌, ℕ, zero, suc, ◌+◌, ◌*◌, ◌/◌, ◌%◌, ◌<◌, ◌≤◌, List, [], ◌∷◌, Option, Some, None, option_map, nat_lt, if◌then◌else◌}

-- The shortest spelling, by cases on the bytes: those after one from 128 on spell a number that isn't 0.
abbrev pub IsUleb : List ℕ → ℕ → Type 0
IsUleb [] n = ⊥
IsUleb (b ∷ []) n = (b < 128) × (n ≡ b)
IsUleb (b ∷ c ∷ bs) n = (128 ≤ b) × (b < 256) × (high : ℕ) × (0 < high) × (n + 128 ≡ b + 128 * high) × IsUleb (c ∷ bs) high

-- the spelling, if it has at most k bytes
abbrev pub uleb_by : ℕ → ℕ → List ℕ
uleb_by zero n = []
uleb_by (suc k) n = if nat_lt n 128 then n ∷ [] else (128 + n % 128) ∷ uleb_by k (n / 128)

-- the spelling of a number below 2 ^ 64
unfoldable pub uleb_of : ℕ → List ℕ
uleb_of n = uleb_by 10 n

-- how many bytes there are up to the first below 128, it included
abbrev pub group_len : List ℕ → Option ℕ
group_len [] = None
group_len (b ∷ bs) = if nat_lt b 128 then Some 1 else option_map (λ n. n + 1) (group_len bs)

-- the number that bytes spell, in shortest form or not
abbrev pub number_of : List ℕ → ℕ
number_of [] = 0
number_of (b ∷ bs) = number_of bs * 128 + b % 128
