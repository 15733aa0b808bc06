use Rattle.std.proofs.Common.{◌≤◌, ◌+◌, List, length, subst}
use Rattle.gimple_tokens.specs.Tokens.{Placed}
use Rattle.gimple_tokens.proofs.Counts.{few-from}
use Rattle.gimple_tokens.proofs.reader.Reader.new.Goals as goal

pub returns-clause-few : goal.returns-clause-few
returns-clause-few c = subst (λ (ts : List Placed). length ts ≤ length c.args.text.now + 1) c.lex-line.ensures.tokens (few-from 1 0 c.args.text.now)
