use Rattle.std.proofs.Common.{◌≡◌, ◌<◌, [], ◌∷◌, ◌++◌, length, sym, ap, ◌∙◌, arith}
use Rattle.worker_gate.specs.Claims.{held, drew, ended}
use Rattle.worker_gate.proofs.Keeping.{draws, new_number, room_left}
use Rattle.worker_gate.proofs.claims.Claims.draw.Goals as goal

pub fetch_add-number-requires : goal.fetch_add-number-requires
fetch_add-number-requires c =
    let i = c.self.invariant in
    let j = c.seat.invariant in (
      ap (λ v. v.id) c.seat.view_is ∙ c.requires.own.0 ∙ sym (ap (λ v. v.id) c.self.view_is),
      i.2,
      draws c.self.inside.table.shared.key c.self.inside.table.shared.table_id.slots c.seat.inside.seat.id c.seat.inside.seat.me (let a = i.0 in let b = i.1 in omega arith) j.4.live (sym j.1 ∙ c.if-seat.false),
    )

pub invariant_of-seat : goal.invariant_of-seat
invariant_of-seat c =
    let j = c.seat.invariant in
    let e = c.fetch_add-number.ensures.2 in
    let count : c.seat.inside.seat.me.0.count ≡ c.self.inside.count = ap (λ v. v.view.count) c.seat.view_is ∙ c.requires.own.1 ∙ sym (ap (λ v. v.count) c.self.view_is) in
    let is = e.3 (let a = c.from.ensures in let b = c.if-number-from.true in omega arith) in
    let room = j.3 in
    let same = ap (λ v. v.count) is in
    (j.0 ∙ sym (ap (λ v. v.own) is), sym (ap (λ v. v.ended) is), e.0 ∙ j.2, omega arith, e.1)

pub returns-then-number-from-clause-none : goal.returns-then-number-from-clause-none
returns-then-number-from-clause-none c =
    let e = c.fetch_add-number.ensures in
    let count : c.seat.inside.seat.me.0.count ≡ c.self.inside.count = ap (λ v. v.view.count) c.seat.view_is ∙ c.requires.own.1 ∙ sym (ap (λ v. v.count) c.self.view_is) in
    let is = e.2.3 (let a = c.from.ensures in let b = c.if-number-from.true in omega arith) in
    let id = e.0 ∙ ap (λ v. v.id) c.seat.view_is in
    let view = is ∙ ap (λ v. ended v.view) c.seat.view_is in
    λ k. record { id = id k; view = view k }

pub push_reserved-requires : goal.push_reserved-requires
push_reserved-requires c =
    let j = c.seat.invariant in
    let e = c.fetch_add-number.ensures.2 in
    let count : c.seat.inside.seat.me.0.count ≡ c.self.inside.count = ap (λ v. v.view.count) c.seat.view_is ∙ c.requires.own.1 ∙ sym (ap (λ v. v.count) c.self.view_is) in
    let new : c.fetch_add-number.result < c.seat.inside.seat.me.0.count = let a = c.from.ensures in let b = c.if-number-from.false in omega arith in
    let room = room_left c.fetch_add-number.result _ c.seat.inside.seat.me.0 (e.2 new).1 new j.3 in
    let items = ap length j.0 in
    omega arith

pub invariant_of-seat-2 : goal.invariant_of-seat-2
invariant_of-seat-2 c =
    let j = c.seat.invariant in
    let e = c.fetch_add-number.ensures.2 in
    let count : c.seat.inside.seat.me.0.count ≡ c.self.inside.count = ap (λ v. v.view.count) c.seat.view_is ∙ c.requires.own.1 ∙ sym (ap (λ v. v.count) c.self.view_is) in
    let is = (e.2 (let a = c.from.ensures in let b = c.if-number-from.false in omega arith)).0 in
    let room = j.3 in
    let cap = c.push_reserved.ensures.capacity in
    let same = ap (λ v. v.count) is in
    (c.push_reserved.ensures.items ∙ ap (λ l. l ++ c.fetch_add-number.result ∷ []) j.0 ∙ sym (ap (λ v. v.own) is), j.1 ∙ sym (ap (λ v. v.ended) is), e.0 ∙ j.2, omega arith, e.1)

pub returns-clause-some : goal.returns-clause-some
returns-clause-some c =
    let n = c.fetch_add-number.result in
    let e = c.fetch_add-number.ensures in
    let at = ap (λ v. v.count) c.self.view_is in
    let count : c.seat.inside.seat.me.0.count ≡ c.self.inside.count = ap (λ v. v.view.count) c.seat.view_is ∙ c.requires.own.1 ∙ sym at in
    let a = c.from.ensures in
    let b = c.if-number-from.false in
    let is = (e.2.2 (omega arith)).0 in
    let id = e.0 ∙ ap (λ v. v.id) c.seat.view_is in
    let view = is ∙ ap (λ v. drew n v.view) c.seat.view_is in
    let none : held n c.args.seat.now.view ≡ 0 = sym (ap (λ v. held n v.view) c.seat.view_is) ∙ new_number n c.seat.inside.seat.me.0 c.fetch_add-number.new.seat.me.0 is e.2.1 in
    (omega arith, none, λ k. record { id = id k; view = view k })
