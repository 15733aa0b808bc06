use Rattle.std.proofs.Common.{◌≡◌, ◌<◌, ◌∙◌, ℕ, length, get_or, true, false, sym, ap, arith}
use Rattle.gimple_ir.specs.declared.merged.MergedFunction.{MergedFunction}
use Rattle.call_graph.specs.Live.{marked}
use Rattle.ipa_plan.specs.Plans.{version_of, versions_by}
use Rattle.ipa_plan.proofs.Listing.{made_more, made_still}
use Rattle.ipa_plan.proofs.versions.versions.Goals.{then-is_live+in_ok-version+in_ok-push, else-is_live}
use Rattle.ipa_plan.proofs.versions.versions.Goals as goal

pub loop-number-preserved : goal.loop-number-preserved
loop-number-preserved c =
    let live = c.args.numbering.now.live in
    let functions = c.args.merged.now.functions in
    let i = c.loop-number.number in
    let item = c.function-item.result in
    let same = c.as_slice-function-items.ensures in
    let inside : i < length functions = omega (arith, c.loop-number-test.true, ap length same) in
    let is = c.function-item.is ∙ ap (λ xs. get_or xs i item) same in
    let before = c.loop-number.versions.items in
    let made = λ (e : ℕ × MergedFunction). version_of c.args.merged.now live e.0 e.1 in
    elim c.if-is_live.branch [
      | then-is_live+in_ok-version+in_ok-push w ↦
          let test : marked live i ≡ true = sym c.is_live.ensures ∙ w.if-is_live.true in
          made_more made (marked live) functions i item before _ (versions_by c.args.merged.now live) _ inside is test w.in_ok-version.ensures (ap (λ v. v.items) w.versions-is ∙ w.in_ok-push.ensures.items) c.loop-number.invariant
      | else-is_live w ↦
          let test : marked live i ≡ false = sym c.is_live.ensures ∙ w.if-is_live.false in
          made_still made (marked live) functions i item before _ (versions_by c.args.merged.now live) inside is test (ap (λ v. v.items) w.versions-is) c.loop-number.invariant
    ]
