use Rattle.std.proofs.Common.{◌≡◌, [], ◌∷◌, ◌++◌, ap, ◌∙◌, subst, arith}
use Rattle.std.specs.Prelude.{vec_capacity}
use Rattle.cache_lock.specs.declared.view.Held.{Held}
use Rattle.cache_lock.proofs.Keeping.{held_one, same_taken, put_back_in, commits_as}
use Rattle.cache_lock.proofs.turn.work.Goals as goal

pub exchange-requires : goal.exchange-requires
exchange-requires g c = (c.requires.table.0, held_one _ _ _ c.requires.ready.carried)

pub fetch_add-requires : goal.fetch_add-requires
fetch_add-requires g c =
    let ready = c.requires.ready in
    let e1 = c.exchange.ensures in
    let e2 = c.exchange-2.ensures in
    let e = c.apply-reply.result.1 in
    let is : c.in-Some.held ≡ ready.held = same_taken _ _ _ _ ready.carried e1.2 c.in-Some.is in
    let state = ap (λ d. d.state) is ∙ ready.state in
    let journal = ap (λ d. d.journal.items) is ∙ ready.journal in
    let d : Held g.row.O-State.Denot g.row.O-Entry.Denot = record { state = c.apply-reply.new.state; journal = c.push_reserved.new.self } in
    let cap = c.push_reserved.ensures.capacity in
    let cap' = ap (λ d. vec_capacity d.journal) is in
    let room = ready.room in (
      e2.0 ∙ e1.0 ∙ c.requires.table.0,
      c.requires.table.1,
      commits_as g.O.Sequential.possible g.O.Sequential.after c.args.shared.now.key _ _ _ c.args.seat.now.me.0 ready.first d e
          (put_back_in _ _ _ _ _ _ e1.3 e2.3 ready.carried)
          ready.turn
          ready.may
          ready.origin
          (c.push_reserved.ensures.items ∙ ap (λ l. l ++ e ∷ []) journal)
          (subst (λ s. g.O.Sequential.possible s e) state c.apply-reply.ensures.possible)
          (c.apply-reply.ensures.after ∙ ap (λ s. g.O.Sequential.after s e) state)
          (omega arith)
          ready.small,
    )
