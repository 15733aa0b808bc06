use Rattle.std.proofs.Common.{◌≡◌, ap, arith, length, map, subst, sym, ◌+◌, ◌∙◌, ◌∷◌}
use mathlib.Core.List.{IsPrefix}
use Rattle.list_counts.specs.Counts.{once_below}
use Rattle.cache_lock.specs.Sequential.{IsLegal, state_after, entries_at}
use Rattle.cache_lock.specs.Passes.{PassValue, places_of, places_at, entries_of}
use Rattle.cache_lock.proofs.Strands.{all_stay}
use Rattle.cache_lock.proofs.Keeping.{closes, closes_at}
use Rattle.cache_lock.proofs.cell.SharedCell.close.Goals as goal

pub unreachable-requires : goal.unreachable-requires
unreachable-requires g c =
    let a = ap (λ p. places_of p + p.allowance) c.pass.view_is ∙ c.requires.all ∙ sym (ap (λ s. s.calls) c.self.view_is) in
    let last = closes g.O.Sequential.possible g.O.Sequential.after c.self.inside.table.shared.key _ _ _ c.pass.inside.seat.me.0 c.pass.invariant.1 (omega arith) c.close_with-closed.ensures.values.2 c.take-held.result c.take-held.ensures.value in
    c.in_default.not-Some last.0 last.1

pub returns-clause-legal : goal.returns-clause-legal
returns-clause-legal g c =
    let a = ap (λ p. places_of p + p.allowance) c.pass.view_is ∙ c.requires.all ∙ sym (ap (λ s. s.calls) c.self.view_is) in
    let last = closes_at g.O.Sequential.possible g.O.Sequential.after c.self.inside.table.shared.key _ _ _ c.pass.inside.seat.me.0 c.pass.invariant.1 (omega arith) c.close_with-closed.ensures.values.2 c.take-held.result c.take-held.ensures.value c.in-Some.field-0 c.in-Some.is in
    let first = ap (λ s. s.first) c.self.view_is in
    subst (λ l. IsLegal g.O.Sequential.possible g.O.Sequential.after c.args.self.first l) (sym c.from_vec.ensures) (subst (λ x. IsLegal g.O.Sequential.possible g.O.Sequential.after x c.in-Some.field-0.journal.items) first last.legal)

pub returns-clause-state : goal.returns-clause-state
returns-clause-state g c =
    let a = ap (λ p. places_of p + p.allowance) c.pass.view_is ∙ c.requires.all ∙ sym (ap (λ s. s.calls) c.self.view_is) in
    let last = closes_at g.O.Sequential.possible g.O.Sequential.after c.self.inside.table.shared.key _ _ _ c.pass.inside.seat.me.0 c.pass.invariant.1 (omega arith) c.close_with-closed.ensures.values.2 c.take-held.result c.take-held.ensures.value c.in-Some.field-0 c.in-Some.is in
    let first = ap (λ s. s.first) c.self.view_is in
    last.state ∙ ap (λ x. state_after g.O.Sequential.after x c.in-Some.field-0.journal.items) first ∙ ap (state_after g.O.Sequential.after c.args.self.first) (sym c.from_vec.ensures)

pub returns-clause-seen : goal.returns-clause-seen
returns-clause-seen g c =
    let a = ap (λ p. places_of p + p.allowance) c.pass.view_is ∙ c.requires.all ∙ sym (ap (λ s. s.calls) c.self.view_is) in
    let last = closes_at g.O.Sequential.possible g.O.Sequential.after c.self.inside.table.shared.key _ _ _ c.pass.inside.seat.me.0 c.pass.invariant.1 (omega arith) c.close_with-closed.ensures.values.2 c.take-held.result c.take-held.ensures.value c.in-Some.field-0 c.in-Some.is in
    let first = ap (λ s. s.first) c.self.view_is in
    subst (λ l. IsPrefix c.args.pass.seen l) (sym c.from_vec.ensures) (subst (λ l. IsPrefix l c.in-Some.field-0.journal.items) (ap (λ p. p.seen) c.pass.view_is) last.seen)

pub returns-clause-strands : goal.returns-clause-strands
returns-clause-strands g c =
    let a = ap (λ p. places_of p + p.allowance) c.pass.view_is ∙ c.requires.all ∙ sym (ap (λ s. s.calls) c.self.view_is) in
    let last = closes_at g.O.Sequential.possible g.O.Sequential.after c.self.inside.table.shared.key _ _ _ c.pass.inside.seat.me.0 c.pass.invariant.1 (omega arith) c.close_with-closed.ensures.values.2 c.take-held.result c.take-held.ensures.value c.in-Some.field-0 c.in-Some.is in
    let first = ap (λ s. s.first) c.self.view_is in
    λ x. sym (ap (places_at x) c.pass.view_is) ∙ last.strands x ∙ ap (λ l. once_below x (length l)) (sym c.from_vec.ensures)

pub returns-clause-entries : goal.returns-clause-entries
returns-clause-entries g c =
    let a = ap (λ p. places_of p + p.allowance) c.pass.view_is ∙ c.requires.all ∙ sym (ap (λ s. s.calls) c.self.view_is) in
    let last = closes_at g.O.Sequential.possible g.O.Sequential.after c.self.inside.table.shared.key _ _ _ c.pass.inside.seat.me.0 c.pass.invariant.1 (omega arith) c.close_with-closed.ensures.values.2 c.take-held.result c.take-held.ensures.value c.in-Some.field-0 c.in-Some.is in
    let k = c.pass.invariant.2 in
    let v = c.pass.inside.seat.me.0 in
    ap (λ l. map (entries_at l) (c.args.pass.own ∷ c.args.pass.others)) c.from_vec.ensures
    ∙ subst (λ (p : PassValue g.row.O-State.Denot g.row.O-Entry.Denot). map (entries_at c.in-Some.field-0.journal.items) (p.own ∷ p.others) ≡ entries_of p) c.pass.view_is
    (all_stay v.seen c.in-Some.field-0.journal.items (v.own ∷ v.others) last.seen (k.own, k.others))
