use Rattle.gimple_syntax.proofs.OutlineLaws.{Outlining}
use Rattle.gimple_syntax.proofs.outlines.outlines_of.Given as goal

abbrev pub decreases-items : goal.decreases-items
decreases-items l = l.left

-- the outlines so far, and those of what is left
abbrev pub invariant-items : goal.invariant-items
invariant-items l = Outlining l.text l.more l.left l.found l.reader
