use Rattle.std.proofs.Common.{length}
use Rattle.gimple_tokens.specs.Tokens.{tokens_of}
use Rattle.gimple_grammar.proofs.TextLaws.{is_found, is_only, is_first, is_few}
use Rattle.gimple_grammar.proofs.text.read_text.Goals as goal

pub returns-clause-found : goal.returns-clause-found
returns-clause-found c = is_found c.all.result (tokens_of c.args.text.now) c.all.ensures.exact

pub returns-clause-only : goal.returns-clause-only
returns-clause-only c = λ items s. is_only c.all.result (tokens_of c.args.text.now) items c.all.ensures.exact s

pub returns-clause-first : goal.returns-clause-first
returns-clause-first c = is_first c.all.result (tokens_of c.args.text.now) c.all.ensures.exact

pub returns-clause-few : goal.returns-clause-few
returns-clause-few c = is_few c.all.result (tokens_of c.args.text.now) (length c.args.text.now) c.all.ensures.exact c.all.ensures.few c.requires
