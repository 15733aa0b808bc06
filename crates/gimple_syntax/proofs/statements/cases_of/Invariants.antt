use Rattle.std.proofs.Common.{◌≡◌, map, take}
use Rattle.gimple_syntax.specs.Statements.{case_of}
use Rattle.gimple_syntax.proofs.statements.cases_of.Given as goal

abbrev pub invariant-loop-case : goal.invariant-loop-case
invariant-loop-case l = l.found.items ≡ map (case_of l.scope) (take l.case-index l.cases)
