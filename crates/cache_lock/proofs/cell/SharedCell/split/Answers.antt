use Rattle.std.proofs.Common.{sym, ap, subst}
use Rattle.cache_lock.specs.Locking.{Knows}
use Rattle.cache_lock.proofs.Keeping.{knows_given}
use Rattle.cache_lock.proofs.cell.SharedCell.split.Goals as goal

pub invariant_of-result : goal.invariant_of-result
invariant_of-result g c =
    let me = c.split_by.ensures.given.1 in
    (ap (λ m. m.1) me, ap (λ m. m.0.turn) me, subst Knows (sym (ap (λ m. m.0) me)) (knows_given c.args.calls c.pass.inside.seat.me.0))
