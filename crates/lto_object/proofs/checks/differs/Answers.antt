use Rattle.std.proofs.Common.{◌≡◌, Some, length, sym, subst, ◌∙◌, arith}
use Rattle.lto_object.specs.ObjectReading.{differs_from}
use Rattle.lto_object.proofs.LoopLaws.{stored_end, symbols_end}
use Rattle.lto_object.proofs.checks.differs.Goals as goal

pub returns-then-place-stored-clause-value : goal.returns-then-place-stored-clause-value
returns-then-place-stored-clause-value c =
    sym (c.loop-place.invariant.same ∙ stored_end c.args.stored.now c.args.symbols.now c.loop-place.place (omega arith) c.loop-place-test.true)

pub returns-then-symbols-stored-clause-value : goal.returns-then-symbols-stored-clause-value
returns-then-symbols-stored-clause-value c =
    let i = c.loop-place.place in
    let e : i ≡ length c.args.symbols.now = omega arith in
    subst (λ n. Some n ≡ differs_from 0 c.args.stored.now c.args.symbols.now) e
    (sym (c.loop-place.invariant.same ∙ symbols_end c.args.stored.now c.args.symbols.now i (omega arith) (omega arith)))
