use Rattle.std.proofs.Common.{◌≡◌, length}
use Rattle.gimple_tokens.specs.declared.token.Mark.TheVariants.{Greater}
use Rattle.gimple_tokens.specs.Tokens.{Sign}
use Rattle.gimple_tokens.specs.Reading.{same}
use Rattle.gimple_grammar.specs.Grammar.{many}
use Rattle.gimple_grammar.specs.Adding.{with_front}
use Rattle.gimple_grammar.specs.Statements.{case_label}
use Rattle.gimple_grammar.proofs.statements.more_cases.Given as goal

abbrev pub decreases-more : goal.decreases-more
decreases-more l = length l.reader

-- the values so far, and those to what is left
abbrev pub invariant-more : goal.invariant-more
invariant-more l = with_front l.found ((many (same (Sign Greater)) case_label).read l.reader) ≡ (many (same (Sign Greater)) case_label).read l.fn.reader
