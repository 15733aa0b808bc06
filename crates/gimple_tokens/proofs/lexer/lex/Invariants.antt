use Rattle.std.proofs.Common.{◌≡◌, ◌+◌, ◌<◌, ◌^◌, length}
use Rattle.gimple_tokens.specs.Tokens.{tokens_from}
use Rattle.gimple_tokens.proofs.lexer.lex.Given as goal

abbrev pub decreases-pieces : goal.decreases-pieces
decreases-pieces l = length l.rest

abbrev pub invariant-pieces : goal.invariant-pieces
invariant-pieces l = record {
  left : tokens_from l.line 0 l.rest ≡ tokens_from l.fn.line 0 l.fn.text;
  within : l.line + length l.rest < 2 ^ 32;
}
