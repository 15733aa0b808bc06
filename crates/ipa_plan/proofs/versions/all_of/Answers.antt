use Rattle.std.proofs.Common.{◌≡◌, ◌∙◌, ◌++◌, ◌∷◌, [], ap, arith}
use Rattle.std.specs.List.{range_with_len}
use Rattle.ipa_plan.proofs.Listing.{range_next}
use Rattle.ipa_plan.proofs.versions.all_of.Goals as goal

pub loop-number-preserved : goal.loop-number-preserved
loop-number-preserved c =
    c.in_ok-push.ensures.items ∙ ap (λ ns. ns ++ c.loop-number.number ∷ []) c.loop-number.invariant ∙ range_next 0 c.loop-number.number c.loop-number.number (omega arith)

pub returns : goal.returns
returns c =
    let end : c.loop-number.number ≡ c.args.count = omega (arith, c.loop-number-test.false, c.loop-number.auto.number-end) in
    c.from_vec.ensures ∙ c.loop-number.invariant ∙ ap (range_with_len 0) end
