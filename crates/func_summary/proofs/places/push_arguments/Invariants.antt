use Rattle.std.proofs.Common.{◌≡◌, ◌++◌, take}
use Rattle.std.specs.List.{flat_map}
use Rattle.func_summary.specs.Summaries.{argument_places}
use Rattle.func_summary.proofs.places.push_arguments.Given as goal

abbrev pub invariant-loop-argument : goal.invariant-loop-argument
invariant-loop-argument l = l.places.items ≡ l.initial.places.items ++ flat_map (argument_places l.layout.variables) (take l.argument-index l.items)
