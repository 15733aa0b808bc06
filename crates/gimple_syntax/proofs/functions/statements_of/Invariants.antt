use Rattle.std.proofs.Common.{◌≡◌, ◌≤◌, ◌++◌, drop}
use Rattle.gimple_syntax.specs.Statements.{statements_from}
use Rattle.gimple_syntax.proofs.functions.statements_of.Given as goal

abbrev pub invariant-loop-line : goal.invariant-loop-line
invariant-loop-line l = record {
  few : l.labels ≤ l.line-index;
  read : l.found.items ++ statements_from l.scope l.returned l.labels (drop l.line-index l.lines) ≡ statements_from l.scope l.returned 0 l.lines;
}
