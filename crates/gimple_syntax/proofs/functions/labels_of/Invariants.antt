use Rattle.std.proofs.Common.{◌≡◌, take}
use Rattle.gimple_syntax.specs.Statements.{label_names}
use Rattle.gimple_syntax.proofs.functions.labels_of.Given as goal

abbrev pub invariant-loop-line : goal.invariant-loop-line
invariant-loop-line l = l.found ≡ label_names (take l.line-index l.lines)
