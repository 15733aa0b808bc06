-- The numbers that the generator draws: a linear congruence modulo 2^64, of whose states the upper 31 bits count.
use Rattle.std.specs.Prelude.{ℕ, zero, suc, ◌+◌, ◌*◌, ◌/◌, ◌%◌, ◌^◌}

unfoldable pub next : ℕ → ℕ
next state = (6364136223846793005 * state + 1442695040888963407) % 2 ^ 64

-- the state after so many draws
unfoldable pub after : ℕ → ℕ → ℕ
after zero state = state
after (suc draws) state = next (after draws state)

-- what a state gives below a bound
abbrev pub drawn : ℕ → ℕ → ℕ
drawn state bound = state / 2 ^ 33 % bound

-- the draw below a bound that comes after so many others
abbrev pub draw : ℕ → ℕ → ℕ → ℕ
draw state others bound = drawn (next (after others state)) bound
