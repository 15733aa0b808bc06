use Rattle.std.proofs.Common.{◌≡◌, take}
use Rattle.func_summary.specs.Tables.{assigned_table}
use Rattle.func_summary.proofs.assignments.table.Given as goal

abbrev pub invariant-loop-assignment : goal.invariant-loop-assignment
invariant-loop-assignment l = l.table.items ≡ assigned_table l.count (take l.assignment-index l.assignments)
