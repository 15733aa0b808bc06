use Rattle.std.proofs.Common.{◌≡◌, take}
use Rattle.std.specs.List.{flat_map}
use Rattle.func_summary.specs.Summaries.{edge_arguments}
use Rattle.func_summary.proofs.edges.arguments.Given as goal

abbrev pub invariant-loop-argument : goal.invariant-loop-argument
invariant-loop-argument l = l.arguments.items ≡ flat_map (edge_arguments l.jumps) (take l.argument-index l.items)
