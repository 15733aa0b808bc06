use Rattle.std.proofs.Common.{◌≡◌, ◌≤◌, Some, length, sym, subst, ◌∙◌, arith}
use Rattle.std.specs.Prelude.{map}
use Rattle.elf_container.specs.Views.{owned}
use Rattle.lto_object.specs.Forms.{misplaced_from}
use Rattle.lto_object.proofs.LoopLaws.{sections_end, names_end}
use Rattle.lto_object.proofs.form.misplaced.Goals as goal

pub returns-then-place-sections-clause-value : goal.returns-then-place-sections-clause-value
returns-then-place-sections-clause-value c =
    sym (c.loop-place.invariant.same ∙ sections_end (λ n. n.now) owned c.args.names.now c.args.sections.now c.loop-place.place c.loop-place-test.true (omega arith))

pub returns-then-names-sections-clause-value : goal.returns-then-names-sections-clause-value
returns-then-names-sections-clause-value c =
    let i = c.loop-place.place in
    let e : i ≡ length c.args.names.now = omega arith in
    subst (λ n. Some n ≡ misplaced_from 0 (map (λ n. n.now) c.args.names.now) (map owned c.args.sections.now)) e
    (sym (c.loop-place.invariant.same ∙ names_end (λ n. n.now) owned c.args.names.now c.args.sections.now i (omega arith) (omega arith)))
