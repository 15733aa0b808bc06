use Rattle.std.proofs.Common.{◌≡◌, length}
use Rattle.gimple_grammar.specs.Grammar.{chain}
use Rattle.gimple_grammar.specs.Items.{initial}
use Rattle.gimple_grammar.proofs.Loops.{going}
use Rattle.gimple_grammar.proofs.items.some_initials.Given as goal

abbrev pub decreases-next : goal.decreases-next
decreases-next l = length l.reader

-- the values so far, and those to what is left where another follows
abbrev pub invariant-next : goal.invariant-next
invariant-next l = going (initial l.element) l.more l.found l.reader ≡ (chain (initial l.element)).read l.fn.reader
