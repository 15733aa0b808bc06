use Rattle.std.proofs.Common.{◌≡◌, ◌++◌, take}
use Rattle.std.specs.List.{flat_map}
use Rattle.gimple_print.specs.Statements.{case_text}
use Rattle.gimple_print.proofs.scope.Scope.put_cases.Given as goal

abbrev pub invariant-loop-case : goal.invariant-loop-case
invariant-loop-case l = l.out.items ≡ l.initial.out.items ++ flat_map (case_text l.self) (take l.case-index l.cases)
