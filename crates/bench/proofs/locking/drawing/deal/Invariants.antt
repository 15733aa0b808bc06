use Rattle.std.proofs.Common.{◌≡◌, ◌+◌}
use Rattle.std.specs.Arc.{arc_value}
use Rattle.worker_gate.specs.Claims.{IsSeatOf}
use Rattle.bench.proofs.locking.drawing.deal.Given as goal

abbrev pub invariant-loop-place : goal.invariant-loop-place
invariant-loop-place l = IsSeatOf (arc_value l.claims) l.seat × (l.seat.view.share + l.place ≡ 65)
