use Rattle.std.proofs.Common.{◌≡◌, take}
use Rattle.std.specs.List.{flat_map}
use Rattle.func_summary.specs.Summaries.{operands_of}
use Rattle.func_summary.proofs.places.places.Given as goal

abbrev pub invariant-loop-statement : goal.invariant-loop-statement
invariant-loop-statement l = l.places.items ≡ flat_map (operands_of l.layout.variables) (take l.statement-index l.body)
