use Rattle.std.proofs.Common.{ap, ◌∙◌, subst, arith}
use Rattle.cache_lock.specs.Sequential.{state_after}
use Rattle.cache_lock.specs.Passes.{PassValue, IsMade}
use Rattle.cache_lock.proofs.Keeping.{ready_of, legal_now, entry_of}
use Rattle.cache_lock.proofs.cell.SharedCell.call.Goals as goal

pub work-requires-clause-ready : goal.work-requires-clause-ready
work-requires-clause-ready g c κs within =
    let t = c.take_turn.ensures.took in
    let may = c.requires.room in
    let allowance = ap (λ v. v.allowance) c.pass.view_is in
    let calls = ap (λ v. v.calls) c.pass.view_is in
    let own = c.requires.own.2 in
    let cell = ap (λ v. v.calls) c.self.view_is in
    let small = c.self.invariant.2 in
    ready_of g.O.Sequential.possible g.O.Sequential.after c.pass.inside.seat.me.0 _ _ t.0 c.args.self.now.first t.1 t.2 t.3 (ap (λ v. v.first) c.pass.view_is ∙ c.requires.own.1) (omega arith) (omega arith)

pub returns-clause-legal : goal.returns-clause-legal
returns-clause-legal g c =
    let t = c.take_turn.ensures.took in
    let d = c.work.ensures.done in
    legal_now g.O.Sequential.possible g.O.Sequential.after c.pass.inside.seat.me.0 c.take_turn.new.seat.me.0 c.work.new.seat.me.0 t.0 c.args.self.now.first d.entry t.2 t.3 (ap (λ v. v.first) c.pass.view_is ∙ c.requires.own.1) d.may d.view

pub returns-clause-entry : goal.returns-clause-entry
returns-clause-entry g c =
    let t = c.take_turn.ensures.took in
    let d = c.work.ensures.done in
    let u = c.work.new.seat.me.0 in
    let first = c.args.self.now.first in
    let q : PassValue g.row.O-State.Denot g.row.O-Entry.Denot = record { id = c.work.new.seat.table_id; first = u.first; calls = u.calls; allowance = u.allowance; seen = u.seen; own = u.own; others = u.others } in
    let r = entry_of c.pass.inside.seat.me.0 c.take_turn.new.seat.me.0 u t.0 d.entry t.2 t.3.seen c.pass.invariant.2.own d.view in
    let origin = ap (λ v. v.first) t.2 ∙ ap (λ v. v.first) c.pass.view_is ∙ c.requires.own.1 in
    let may = subst (λ l. g.O.Sequential.possible (state_after g.O.Sequential.after first l) d.entry) r.1 (d.may first origin) in
    subst
    (λ (p : PassValue g.row.O-State.Denot g.row.O-Entry.Denot). IsMade g.O.Sequential.possible g.O.Sequential.after g.O.Sequential.call_of g.O.Sequential.tells first p c.args.call c.work.result q)
    c.pass.view_is
    record { between = r.0; entry = d.entry; seen = r.2; may = may; call = d.call; reply = d.reply; strand = r.3 }
