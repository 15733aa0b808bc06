use Rattle.std.proofs.Common.{◌≡◌, ◌++◌, map}
use Rattle.std.specs.List.{range_with_len}
use Rattle.func_summary.specs.Summaries.{field_argument}
use Rattle.func_summary.proofs.edges.push_whole.Given as goal

abbrev pub invariant-loop-field : goal.invariant-loop-field
invariant-loop-field l = l.arguments.items ≡ l.initial.arguments.items ++ map (field_argument l.jumps l.variable) (range_with_len 0 l.field)
