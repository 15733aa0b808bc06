use Rattle.std.proofs.Common.{◌≡◌, ◌-◌, length}
use Rattle.worker_gate.specs.Claims.{IsSeatOf}
use Rattle.system_rows.proofs.claims.DrawerWork.run.Given as goal

abbrev pub invariant-loop-number : goal.invariant-loop-number
invariant-loop-number l = (l.self.claims.now ≡ l.initial.self.claims.now) × IsSeatOf l.self.claims.now l.self.seat × (l.self.seat.view.share ≡ l.initial.self.seat.view.share)

abbrev pub decreases-loop-number : goal.decreases-loop-number
decreases-loop-number l = l.self.seat.view.count - length l.self.seat.view.own
