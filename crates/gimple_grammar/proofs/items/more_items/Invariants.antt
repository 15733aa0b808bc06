use Rattle.std.proofs.Common.{◌≡◌, length}
use Rattle.gimple_tokens.specs.Tokens.{End}
use Rattle.gimple_tokens.specs.Reading.{same}
use Rattle.gimple_grammar.specs.Grammar.{many}
use Rattle.gimple_grammar.specs.Adding.{with_front}
use Rattle.gimple_grammar.specs.Items.{item_line}
use Rattle.gimple_grammar.proofs.items.more_items.Given as goal

abbrev pub decreases-more : goal.decreases-more
decreases-more l = length l.reader

-- the values so far, and those to what is left
abbrev pub invariant-more : goal.invariant-more
invariant-more l = with_front l.found ((many (same End) item_line).read l.reader) ≡ (many (same End) item_line).read l.fn.reader
