use Rattle.std.proofs.Common.{rules, ◌+◌, ◌∷◌, Some, refl, ap, ◌∙◌, subst, arith}
use Rattle.atomic_table.specs.Table.{step}
use mathlib.Core.Option.{none}
use Rattle.cache_lock.specs.Locking.{Took}
use Rattle.cache_lock.proofs.Keeping.{looks, takes_turn}
use Rattle.cache_lock.proofs.turn.take_turn.Goals as goal

pub load-found-requires : goal.load-found-requires
load-found-requires g c = (search rules, search rules, looks _ _ _ _ _ _)

pub compare_exchange-now-requires : goal.compare_exchange-now-requires
compare_exchange-now-requires g c =
    let here = c.load-found.ensures.2.0 ∙ c.loop.invariant.2 in
    let may = c.requires.free.1 in
    let same = ap (λ m. m.0.allowance) here in
    (search rules, search rules, takes_turn _ _ _ _ _ _ _ _ (search rules) refl (omega arith) (ap (λ m. m.1) here ∙ c.requires.free.0))

pub returns-then-now-found-clause-took : goal.returns-then-now-found-clause-took
returns-then-now-found-clause-took g c =
    let here = c.load-found.ensures.2.0 ∙ c.loop.invariant.2 in
    let told = subst (λ m. Took g.O.Sequential.possible g.O.Sequential.after (step c.args.shared.now.table_id.slots 0 c.load-found.result (c.load-found.result + 1) none) m c.compare_exchange-now.result c.compare_exchange-now.new.seat.me) here c.compare_exchange-now.ensures.2 in
    let t = told.0 c.if-now-found.true in
    (t.0, t.1 ∙ ap (λ l. (0, Some t.0) ∷ l) c.requires.free.0, t.2, t.3)
