use Rattle.std.proofs.Common.{◌≡◌, take}
use Rattle.std.specs.List.{flat_map}
use Rattle.func_summary.specs.JumpFunctions.{assignments_in}
use Rattle.func_summary.proofs.assignments.assignments.Given as goal

abbrev pub invariant-loop-statement : goal.invariant-loop-statement
invariant-loop-statement l = l.assignments.items ≡ flat_map (assignments_in l.layout) (take l.statement-index l.body)
