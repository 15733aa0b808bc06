use Rattle.std.proofs.Common.{◌≡◌, ◌+◌, ◌<◌, ◌^◌, length}
use Rattle.gimple_tokens.proofs.Braces.{scan}
use Rattle.gimple_tokens.proofs.lexer.past_brace.Given as goal

abbrev pub decreases-bytes : goal.decreases-bytes
decreases-bytes l = length l.rest

abbrev pub invariant-bytes : goal.invariant-bytes
invariant-bytes l = record {
  left : scan l.line 0 l.rest ≡ scan l.fn.line 0 l.fn.text;
  within : l.line + length l.rest < 2 ^ 32;
}
