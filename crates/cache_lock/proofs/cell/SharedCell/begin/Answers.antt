use Rattle.std.proofs.Common.{◌≡◌, [], ◌∷◌, ◌++◌, Some, sym, ap, ◌∙◌, subst, arith}
use Rattle.cache_lock.specs.declared.view.Held.{Held}
use Rattle.cache_lock.specs.declared.view.Origin.{Origin}
use Rattle.cache_lock.specs.Locking.{Kept, first_view}
use Rattle.atomic_table.specs.Table.{opening}
use Rattle.cache_lock.proofs.Keeping.{begins}
use Rattle.cache_lock.proofs.cell.SharedCell.begin.Goals as goal

pub new-requires : goal.new-requires
new-requires g c =
    let key : Origin g.row.O-State.Denot = record { first = c.of.result; calls = c.from.result } in
    let d : Held g.row.O-State.Denot g.row.O-Entry.Denot = record { state = c.args.state; journal = c.in_ok-journal.journal } in
    let items : c.push_reserved.new.self.items ≡ Some d ∷ [] = c.push_reserved.ensures.items ∙ ap (λ l. l ++ Some d ∷ []) c.in_ok-slots.ensures.items in
    let cap = c.in_ok-journal.ensures.capacity in
    let calls = c.from.ensures in
    subst (λ l. Kept g.O.Sequential.possible g.O.Sequential.after key (opening (0 ∷ []) l (first_view key))) (sym items)
    (begins g.O.Sequential.possible g.O.Sequential.after key d (sym c.of.ensures) c.in_ok-journal.ensures.items (omega arith))
