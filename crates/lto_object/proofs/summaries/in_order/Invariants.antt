use Rattle.std.proofs.Common.{drop}
use Rattle.module_stream.specs.Readers.{in_turn}
use Rattle.module_stream.proofs.TurnLaws.{TurnsSoFar}
use Rattle.lto_object.specs.SummaryStream.{summary_at}
use Rattle.lto_object.proofs.summaries.in_order.Given as goal

abbrev pub invariant-loop-own : goal.invariant-loop-own
invariant-loop-own l = TurnsSoFar summary_at l.summaries (drop l.own-index l.bounds) l.cursor (in_turn summary_at l.bounds l.fn.cursor)
