use Rattle.std.proofs.Common.{◌≡◌, drop}
use Rattle.lto_object.specs.ObjectReading.{summaries_fault, summaries_fault_from}
use Rattle.lto_object.proofs.checks.summaries_fault.Given as goal

abbrev pub invariant-loop-place : goal.invariant-loop-place
invariant-loop-place l = summaries_fault l.source l.stored ≡ summaries_fault_from l.source l.place (drop l.place l.source.functions) (drop l.next l.stored)
