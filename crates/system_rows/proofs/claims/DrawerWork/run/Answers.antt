use Rattle.std.proofs.Common.{[], ◌∷◌, length, ap, ◌∙◌, arith, length-append}
use Rattle.list_counts.proofs.Sums.{ascends_few}
use Rattle.system_rows.proofs.claims.DrawerWork.run.Goals as goal

pub loop-number-smaller : goal.loop-number-smaller
loop-number-smaller c =
    let is = c.in-Some.ensures.some.2 in
    let own = ap (λ s. length s.view.own) is ∙ length-append c.loop-number.self.seat.view.own (c.in-Some._number ∷ []) in
    let count = ap (λ s. s.view.count) is in
    let few = ascends_few 0 c.draw.new.seat.view.count c.draw.new.seat.view.own c.draw.ensures.sound.own in
    omega arith
