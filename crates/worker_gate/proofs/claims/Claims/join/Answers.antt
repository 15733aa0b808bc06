use Rattle.std.proofs.Common.{sym, ap, ◌∙◌, arith}
use Rattle.worker_gate.proofs.Keeping.{joins, looks}
use Rattle.worker_gate.proofs.claims.Claims.join.Goals as goal

pub join_seat-requires : goal.join_seat-requires
join_seat-requires c =
    let a = ap (λ v. v.id) c.self.view_is in (
      ap (λ v. v.id) c.seat.view_is ∙ c.requires.own.0.0 ∙ sym a,
      ap (λ v. v.id) c.other.view_is ∙ c.requires.own.1.0 ∙ sym a,
      c.other.invariant.2,
      c.self.invariant.2,
      joins _ _ _ _ _ c.seat.invariant.4.live c.other.invariant.4.live,
    )

pub load-requires : goal.load-requires
load-requires c =
    let e = c.join_seat.ensures in
    let live = c.seat.invariant.4.live in
    let share = ap (λ v. v.0.share) e.2 in (
      e.0 ∙ ap (λ v. v.id) c.seat.view_is ∙ c.requires.own.0.0 ∙ sym (ap (λ v. v.id) c.self.view_is),
      c.self.invariant.2,
      looks _ _ _ _ (omega arith),
    )
