-- Decimals without leading zeros of numbers below 2 ^ 64. The decimal of a number is std's `decimal`.
use Rattle.std.specs.Prelude.{ℕ, ◌^◌, List, Option, Some, None, ◌&&◌, nat_lt, decimal, if◌then◌else◌}
use Rattle.std.specs.Str.{bytes_eq}
use Rattle.std.specs.Str.Parse.{digits_value}

-- the number whose decimal this is
abbrev pub decimal_value : List ℕ → Option ℕ
decimal_value text = if nat_lt (digits_value 10 text) (2 ^ 64) && bytes_eq text (decimal (digits_value 10 text)) then Some (digits_value 10 text) else None
