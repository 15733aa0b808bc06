use Rattle.std.proofs.Common.{◌≡◌, length}
use Rattle.gimple_tokens.specs.declared.token.Mark.TheVariants.{CloseCurly}
use Rattle.gimple_tokens.specs.Tokens.{Sign}
use Rattle.gimple_tokens.specs.Reading.{same}
use Rattle.gimple_grammar.specs.Grammar.{many}
use Rattle.gimple_grammar.specs.Adding.{with_front}
use Rattle.gimple_grammar.specs.Items.{field_text}
use Rattle.gimple_grammar.proofs.items.more_fields.Given as goal

abbrev pub decreases-more : goal.decreases-more
decreases-more l = length l.reader

-- the values so far, and those to what is left
abbrev pub invariant-more : goal.invariant-more
invariant-more l = with_front l.found ((many (same (Sign CloseCurly)) field_text).read l.reader) ≡ (many (same (Sign CloseCurly)) field_text).read l.fn.reader
