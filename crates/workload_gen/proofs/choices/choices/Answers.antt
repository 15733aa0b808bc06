use Rattle.std.proofs.Common.{◌∙◌, sym, ap, arith}
use Rattle.workload_gen.specs.Choices.{after_choice}
use Rattle.workload_gen.proofs.Numbers.{start-first, start-next, first_choices_more, first_choices_all, first_choices_forward}
use Rattle.workload_gen.proofs.choices.choices.Goals as goal

pub loop-number-init : goal.loop-number-init
loop-number-init c = (sym (start-first c.args.draws.now.state c.args.count), c.in_ok-choices.ensures.items)

pub loop-number-preserved : goal.loop-number-preserved
loop-number-preserved c =
    let count = c.args.count in
    let n = c.loop-number.number in
    let seed = c.args.draws.now.state in
    let state = c.loop-number.invariant.0 in (
      c.choice.ensures.state ∙ ap (after_choice count n) state ∙ sym (start-next seed count n),
      first_choices_more seed count n c.loop-number.draws.state _ _ _ state c.choice.ensures.value c.loop-number.invariant.1 c.in_ok-push.ensures.items,
    )

pub returns-clause-value : goal.returns-clause-value
returns-clause-value c =
    first_choices_all c.args.draws.now.state c.args.count c.loop-number.number _ (omega (arith, c.loop-number.auto.number-end, c.loop-number-test.false)) c.loop-number.invariant.1

pub returns-clause-forward : goal.returns-clause-forward
returns-clause-forward c =
    first_choices_forward c.args.draws.now.state c.args.count c.loop-number.number _ (omega (arith, c.loop-number.auto.number-end, c.loop-number-test.false)) c.loop-number.invariant.1
