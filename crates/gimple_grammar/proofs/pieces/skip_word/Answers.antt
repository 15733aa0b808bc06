use Rattle.std.proofs.Common.{refl}
use Rattle.gimple_tokens.specs.Tokens.{Word}
use Rattle.gimple_grammar.proofs.Passing.{passed-first}
use Rattle.gimple_grammar.proofs.pieces.skip_word.Goals as goal

pub returns : goal.returns
returns c = passed-first (Word c.args.word) refl c.pass_word.result c.args.reader.now c.pass_word.new.self c.requires c.pass_word.ensures
