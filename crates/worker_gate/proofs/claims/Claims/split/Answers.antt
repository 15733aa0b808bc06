use Rattle.std.proofs.Common.{rules, ◌≡◌, sym, ap, ◌∙◌, subst, [], arith}
use Rattle.worker_gate.specs.Claims.{given, IsSound}
use Rattle.worker_gate.proofs.Keeping.{splits, sound_given}
use Rattle.worker_gate.proofs.claims.Claims.split.Goals as goal

pub split_seat-other-requires : goal.split_seat-other-requires
split_seat-other-requires c =
    let enough = ap (λ v. v.view.share) c.seat.view_is in
    let two = c.requires.share in (
      ap (λ v. v.id) c.seat.view_is ∙ c.requires.own.0 ∙ sym (ap (λ v. v.id) c.self.view_is),
      c.self.invariant.2,
      splits _ _ _ (omega arith),
    )

pub invariant_of-result : goal.invariant_of-result
invariant_of-result c =
    let j = c.seat.invariant in
    let i = c.self.invariant in
    let e = c.split_seat-other.ensures in
    let v = c.seat.inside.seat.me.0 in
    let me : c.split_seat-other.result.me ≡ (given v, []) = search rules in
    let count : v.count ≡ c.self.inside.count = ap (λ v. v.view.count) c.seat.view_is ∙ c.requires.own.1 ∙ sym (ap (λ v. v.count) c.self.view_is) in
    let new = ap (λ m. m.0.count) me in
    let room = c.in_ok-drawn.ensures.capacity in (
      c.in_ok-drawn.ensures.items ∙ sym (ap (λ m. m.0.own) me),
      j.1 ∙ sym (ap (λ m. m.0.ended) me),
      ap (λ m. m.1) me,
      omega arith,
      subst IsSound (sym (ap (λ m. m.0) me)) (sound_given v),
    )
