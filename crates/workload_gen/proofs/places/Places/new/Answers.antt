use Rattle.std.proofs.Common.{◌≡◌, ◌+◌, ◌*◌, [], length, sym, ap, subst, ◌∙◌, arith}
use Rattle.workload_gen.specs.Modules.{declared_below}
use Rattle.workload_gen.specs.Places.{AreCounts, Reaches}
use Rattle.workload_gen.proofs.Calling.{length-own_choices, declared_below-end, declared_below-limit}
use Rattle.workload_gen.proofs.places.Places.new.Goals as goal

pub overflow_cast-end : goal.overflow_cast-end
overflow_cast-end c =
    omega (arith, length-own_choices c.args.choices.now c.args.module_number, ap length c.own_choices-own.ensures)

pub overflow_add-end : goal.overflow_add-end
overflow_add-end c =
    omega (arith, length-own_choices c.args.choices.now c.args.module_number, ap length c.own_choices-own.ensures)

pub tables-requires-clause-none : goal.tables-requires-clause-none
tables-requires-clause-none c =
    let choices = c.args.choices.now in
    let m = c.args.module_number in
    subst (λ own. declared_below own m (50 * m + length own) ≡ []) (sym c.own_choices-own.ensures) (declared_below-end choices m c.requires.forward)

pub invariant_of-result-clause-listed : goal.invariant_of-result-clause-listed
invariant_of-result-clause-listed c =
    let choices = c.args.choices.now in
    let m = c.args.module_number in
    let limit = c.reach-limit.result in
    c.in_ok-declared.ensures.declared ∙ ap (λ own. declared_below own m limit) c.own_choices-own.ensures
    ∙ declared_below-limit choices m limit c.reach-limit.ensures.reaches c.reach-limit.ensures.within

pub invariant_of-result-clause-counted : goal.invariant_of-result-clause-counted
invariant_of-result-clause-counted c =
    let m = c.args.module_number in
    let end = 50 * m + length c.own_choices-own.result.now in
    subst (λ own. AreCounts own m end c.in_ok-declared.before.items) c.own_choices-own.ensures c.in_ok-declared.ensures.before

pub invariant_of-result-clause-enough : goal.invariant_of-result-clause-enough
invariant_of-result-clause-enough c =
    subst (Reaches c.args.choices.now c.args.module_number) (sym c.in_ok-declared.ensures.long) c.reach-limit.ensures.reaches
