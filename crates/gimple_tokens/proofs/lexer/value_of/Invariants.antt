use Rattle.std.proofs.Common.{◌≡◌, ◌<◌, ◌^◌, drop}
use Rattle.gimple_tokens.specs.Tokens.{value_of}
use Rattle.gimple_tokens.proofs.Digits.{value_on}
use Rattle.gimple_tokens.proofs.lexer.value_of.Given as goal

-- the digits that are left complete the value
abbrev pub invariant-loop-digit : goal.invariant-loop-digit
invariant-loop-digit l = record {
  left : value_on l.value (drop l.digit-index l.digits) ≡ value_of l.digits;
  fits : l.value < 2 ^ 64;
}
