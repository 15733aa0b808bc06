use Rattle.std.proofs.Common.{◌≡◌, take}
use Rattle.func_summary.specs.Tables.{facts_table}
use Rattle.func_summary.proofs.places.facts.Given as goal

abbrev pub invariant-loop-place : goal.invariant-loop-place
invariant-loop-place l = l.facts.items ≡ facts_table l.parameters (take l.place-index l.places)
