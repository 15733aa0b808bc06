use Rattle.std.proofs.Common.{refl}
use Rattle.gimple_tokens.specs.Tokens.{Sign}
use Rattle.gimple_grammar.proofs.Passing.{passed-first}
use Rattle.gimple_grammar.proofs.pieces.skip_sign.Goals as goal

pub returns : goal.returns
returns c = passed-first (Sign c.args.mark) refl c.pass_sign.result c.args.reader.now c.pass_sign.new.self c.requires c.pass_sign.ensures
