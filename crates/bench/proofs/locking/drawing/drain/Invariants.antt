use Rattle.std.specs.Arc.{arc_value}
use Rattle.worker_gate.specs.Claims.{IsSeatOf}
use Rattle.bench.proofs.locking.drawing.drain.Given as goal

abbrev pub invariant-loop : goal.invariant-loop
invariant-loop l = IsSeatOf (arc_value l.claims) l.seat
