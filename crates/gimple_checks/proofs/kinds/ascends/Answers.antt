use Rattle.std.proofs.Common.{◌+◌, ◌&&◌, map, drop, ap, ◌∙◌, sym}
use Rattle.gimple_ir.specs.Statements.{ascends_above}
use Rattle.gimple_checks.proofs.Lists.{drop_here}
use Rattle.gimple_checks.proofs.kinds.ascends.Goals as goal

pub returns-then-not-is_above : goal.returns-then-not-is_above
returns-then-not-is_above c =
    let here = ap (λ cs. ascends_above c.loop-place.before.now.value.num (map (λ x. x.value.num) cs))
    (drop_here c.args.cases.now c.loop-place.place c.get-case.result.now c.get-case.ensures) in
    let rest = ascends_above c.get-case.result.now.value.num (map (λ x. x.value.num) (drop (c.loop-place.place + 1) c.args.cases.now)) in
    sym (sym c.loop-place.invariant ∙ here ∙ ap (λ b. b && rest) (sym c.is_above.ensures ∙ c.if-not-is_above.true))

pub loop-place-preserved : goal.loop-place-preserved
loop-place-preserved c =
    let here = ap (λ cs. ascends_above c.loop-place.before.now.value.num (map (λ x. x.value.num) cs))
    (drop_here c.args.cases.now c.loop-place.place c.get-case.result.now c.get-case.ensures) in
    let rest = ascends_above c.get-case.result.now.value.num (map (λ x. x.value.num) (drop (c.loop-place.place + 1) c.args.cases.now)) in
    sym (here ∙ ap (λ b. b && rest) (sym c.is_above.ensures ∙ c.if-not-is_above.false)) ∙ c.loop-place.invariant
