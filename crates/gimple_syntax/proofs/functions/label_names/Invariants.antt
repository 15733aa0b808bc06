use Rattle.std.proofs.Common.{◌≡◌, map, take}
use Rattle.gimple_syntax.specs.Statements.{label_names}
use Rattle.gimple_syntax.proofs.functions.label_names.Given as goal

abbrev pub invariant-loop-line : goal.invariant-loop-line
invariant-loop-line l = map (λ name. name.now) l.found.items ≡ label_names (take l.line-index l.lines)
