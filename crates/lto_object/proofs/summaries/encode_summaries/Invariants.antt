use Rattle.std.proofs.Common.{◌≡◌, take}
use Rattle.lto_object.specs.SummaryStream.{summaries_bytes}
use Rattle.lto_object.proofs.summaries.encode_summaries.Given as goal

abbrev pub invariant-loop-summary : goal.invariant-loop-summary
invariant-loop-summary l = l.out.items ≡ summaries_bytes (take l.summary-index l.summaries)
