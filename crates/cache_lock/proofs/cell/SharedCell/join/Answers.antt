use Rattle.std.proofs.Common.{ap, subst, sym, ◌++◌, ◌+◌, ◌∙◌}
use Rattle.cache_lock.specs.Sequential.{IsLegal}
use Rattle.cache_lock.specs.Locking.{count_of, Knows}
use Rattle.cache_lock.specs.Passes.{reserved_of, entries_of}
use Rattle.cache_lock.proofs.Keeping.{joins, looks, reserved_joined, entries_joined}
use Rattle.cache_lock.proofs.cell.SharedCell.join.Goals as goal

pub join_seat-requires : goal.join_seat-requires
join_seat-requires g c =
    let id = ap (λ v. v.id) c.self.view_is in (
      ap (λ v. v.id) c.pass.view_is ∙ c.requires.own.0.0 ∙ sym id,
      ap (λ v. v.id) c.other.view_is ∙ c.requires.own.1.0 ∙ sym id,
      c.other.invariant.0,
      c.self.invariant.0,
      joins _ _ _ _ _ _ _ c.pass.invariant.1 c.other.invariant.1,
    )

pub load-requires : goal.load-requires
load-requires g c = (c.join_seat.ensures.0 ∙ ap (λ v. v.id) c.pass.view_is ∙ c.requires.own.0.0 ∙ sym (ap (λ v. v.id) c.self.view_is), c.self.invariant.0, looks _ _ _ _ _ _)

pub returns-clause-reserved : goal.returns-clause-reserved
returns-clause-reserved g c =
    let v = c.pass.inside.seat.me.0 in
    let w = c.other.inside.seat.me.0 in
    let is = ap (λ m. m.0) (c.load.ensures.2.0 ∙ c.join_seat.ensures.2) in
    ap (λ u. count_of u + u.allowance) is ∙ reserved_joined v w ∙ (λ k. reserved_of (c.pass.view_is k) + reserved_of (c.other.view_is k))

pub returns-clause-entries : goal.returns-clause-entries
returns-clause-entries g c =
    let is = ap (λ m. m.0) (c.load.ensures.2.0 ∙ c.join_seat.ensures.2) in
    let knows = subst Knows (sym (ap (λ m. m.0) c.load.ensures.2.0)) c.load.ensures.2.1 in
    entries_joined c.pass.inside.seat.me.0 c.other.inside.seat.me.0 c.load.new.seat.me.0 is c.pass.invariant.2 c.other.invariant.2 knows
    ∙ (λ k. entries_of (c.pass.view_is k) ++ entries_of (c.other.view_is k))

pub returns-clause-legal : goal.returns-clause-legal
returns-clause-legal g c =
    let joined = ap (λ m. m.0.first) c.join_seat.ensures.2 in
    let first = ap (λ p. p.first) c.pass.view_is ∙ c.requires.own.0.1 in
    subst (λ m. IsLegal g.O.Sequential.possible g.O.Sequential.after c.args.self.now.first m.0.seen) (sym c.load.ensures.2.0) (c.load.ensures.2.2 c.args.self.now.first (joined ∙ first))
