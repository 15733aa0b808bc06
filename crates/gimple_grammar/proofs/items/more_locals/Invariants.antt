use Rattle.std.proofs.Common.{◌≡◌, length}
use Rattle.gimple_grammar.specs.Pieces.{no_type}
use Rattle.gimple_grammar.specs.Grammar.{many}
use Rattle.gimple_grammar.specs.Adding.{with_front}
use Rattle.gimple_grammar.specs.Items.{local}
use Rattle.gimple_grammar.proofs.items.more_locals.Given as goal

abbrev pub decreases-more : goal.decreases-more
decreases-more l = length l.reader

-- the values so far, and those to what is left
abbrev pub invariant-more : goal.invariant-more
invariant-more l = with_front l.found ((many no_type local).read l.reader) ≡ (many no_type local).read l.fn.reader
