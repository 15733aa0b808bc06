use Rattle.std.proofs.Common.{◌≡◌, ◌++◌, map}
use Rattle.std.specs.List.{range_with_len}
use Rattle.func_summary.specs.JumpFunctions.{copy_of_field}
use Rattle.func_summary.proofs.assignments.push_fields.Given as goal

abbrev pub invariant-loop-field : goal.invariant-loop-field
invariant-loop-field l = l.assignments.items ≡ l.initial.assignments.items ++ map (copy_of_field l.layout.variables l.to l.from) (range_with_len 0 l.field)
