use Rattle.std.proofs.Common.{length}
use Rattle.gimple_tokens.specs.Tokens.{tokens_of}
use Rattle.gimple_grammar.proofs.TextLaws.{is_found, is_only, is_first, is_few}
use Rattle.gimple_grammar.proofs.text.reading_laws.Goals as goal

pub returns : goal.returns
returns c = record {
  found = λ answer given. is_found answer (tokens_of c.args.text.now) given;
  only = λ answer items given spelled. is_only answer (tokens_of c.args.text.now) items given spelled;
  first = λ answer given. is_first answer (tokens_of c.args.text.now) given;
  few = λ answer given tokens. is_few answer (tokens_of c.args.text.now) (length c.args.text.now) given tokens c.requires;
}
