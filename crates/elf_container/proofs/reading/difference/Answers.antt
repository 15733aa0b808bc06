use Rattle.std.proofs.Common.{◌≡◌, length, Some, sym, subst, ◌∙◌, arith}
use Rattle.elf_container.specs.Reading.{difference}
use Rattle.elf_container.proofs.FormSteps.{difference_ends}
use Rattle.elf_container.proofs.reading.difference.Goals as goal

pub returns-then-place-right : goal.returns-then-place-right
returns-then-place-right c =
    sym (c.loop-place.invariant.same ∙ difference_ends c.loop-place.place c.args.left.now c.args.right.now (omega arith) c.loop-place.invariant.right (λ e. absurd (omega arith)) (λ h k. absurd (omega arith)))

pub returns-then-left-right : goal.returns-then-left-right
returns-then-left-right c =
    let e : c.loop-place.place ≡ length c.args.left.now = omega arith in
    subst (λ n. Some n ≡ difference 0 c.args.left.now c.args.right.now) e
    (sym (c.loop-place.invariant.same ∙ difference_ends c.loop-place.place c.args.left.now c.args.right.now (omega arith) c.loop-place.invariant.right (λ e. absurd (omega arith)) (λ h k. absurd (omega arith))))
