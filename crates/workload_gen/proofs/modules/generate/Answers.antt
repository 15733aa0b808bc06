use Rattle.std.proofs.Common.{length, ap, ◌∙◌, arith}
use Rattle.workload_gen.specs.Modules.{module_of}
use Rattle.workload_gen.proofs.Listing.{length-choices_of, first_modules_more, first_modules_all, length-first_modules}
use Rattle.workload_gen.proofs.Checked.{modules_checked}
use Rattle.workload_gen.proofs.modules.generate.Goals as goal

pub module_of-requires-clause-numbered : goal.module_of-requires-clause-numbered
module_of-requires-clause-numbered c =
    let long = ap length (c.as_slice.ensures.value ∙ c.in_ok-choices.ensures.value) ∙ length-choices_of c.args.seed c.args.count in
    omega (arith, long)

pub module_of-requires-clause-some : goal.module_of-requires-clause-some
module_of-requires-clause-some c =
    let long = ap length (c.as_slice.ensures.value ∙ c.in_ok-choices.ensures.value) ∙ length-choices_of c.args.seed c.args.count in
    omega (arith, long, c.loop-number-test.true, c.max-many.ensures, c.div_ceil.ensures)

pub loop-number-preserved : goal.loop-number-preserved
loop-number-preserved c =
    let state = c.choices.new.draws.state in
    let n = c.loop-number.number in
    first_modules_more c.in_ok-choices.choices.items state n _ _ _ (c.in_ok-module_of.ensures ∙ ap (λ xs. module_of xs state n) c.as_slice.ensures.value) c.loop-number.invariant c.in_ok-push.ensures.items

pub returns-clause-modules : goal.returns-clause-modules
returns-clause-modules c =
    first_modules_all c.args.seed c.args.count c.loop-number.number _ c.in_ok-choices.choices.items _
    (omega (arith, c.loop-number-test.false, c.loop-number.auto.number-end, c.max-many.ensures, c.div_ceil.ensures)) c.in_ok-choices.ensures.state c.in_ok-choices.ensures.value
    (c.from_vec.ensures ∙ c.loop-number.invariant)

pub returns-clause-checked : goal.returns-clause-checked
returns-clause-checked c = λ few.
    let is = first_modules_all c.args.seed c.args.count c.loop-number.number _ c.in_ok-choices.choices.items _
    (omega (arith, c.loop-number-test.false, c.loop-number.auto.number-end, c.max-many.ensures, c.div_ceil.ensures)) c.in_ok-choices.ensures.state c.in_ok-choices.ensures.value
    (c.from_vec.ensures ∙ c.loop-number.invariant) in
    modules_checked c.args.seed c.args.count _ is few

pub returns-clause-many : goal.returns-clause-many
returns-clause-many c =
    let long = ap length (c.from_vec.ensures ∙ c.loop-number.invariant) ∙ length-first_modules c.in_ok-choices.choices.items c.choices.new.draws.state c.loop-number.number in
    omega (arith, long, c.loop-number-test.false, c.loop-number.auto.number-end, c.max-many.ensures, c.div_ceil.ensures)
