use Rattle.std.proofs.Common.{◌≡◌, ◌++◌, drop}
use Rattle.std.specs.List.{flat_map}
use Rattle.rv64_select.specs.Assembly.{case_items}
use Rattle.rv64_select.proofs.steps.put_cases.Given as goal

abbrev pub invariant-loop-case : goal.invariant-loop-case
invariant-loop-case l = l.out.items ++ flat_map case_items (drop l.case-index l.cases) ≡ l.initial.out.items ++ flat_map case_items l.cases
