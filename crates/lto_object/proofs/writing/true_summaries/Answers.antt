use Rattle.std.proofs.Common.{◌≡◌, ◌∷◌, ◌++◌, [], map, take, sym, ap, subst, ◌∙◌, true, false}
use Rattle.std.specs.Prelude.{IfSome, slice_get}
use Rattle.func_summary.specs.Summaries.{summary_of}
use Rattle.lto_object.specs.Bounds.{is_defined, defined_of}
use Rattle.lto_object.proofs.LoopLaws.{undefined_here, summed_here}
use Rattle.lto_object.proofs.writing.true_summaries.Goals as goal

pub loop-place-preserved-then-not-is_defined : goal.loop-place-preserved-then-not-is_defined
loop-place-preserved-then-not-is_defined c =
    let m = c.args.source.now in
    let f = c.get-function.result.now in
    let e : is_defined f ≡ false = sym c.is_defined.ensures ∙ c.if-not-is_defined.true in
    c.loop-place.invariant ∙ undefined_here (summary_of m) m.functions c.loop-place.place f c.get-function.ensures e

pub loop-place-preserved : goal.loop-place-preserved
loop-place-preserved c =
    let m = c.args.source.now in
    let f = c.get-function.result.now in
    let e : is_defined f ≡ true = sym c.is_defined.ensures ∙ c.if-not-is_defined.false in
    let same : c.in_ok-summary.summary ≡ summary_of m f = subst (λ o. IfSome o (λ g. c.in_ok-summary.summary ≡ summary_of m g)) c.get-function.ensures c.in_ok-summary.ensures.summary in
    c.in_ok-push.ensures.items ∙ ap (λ t. t ++ c.in_ok-summary.summary ∷ []) c.loop-place.invariant ∙ ap (λ s. map (summary_of m) (defined_of (take c.loop-place.place m.functions)) ++ s ∷ []) same
    ∙ summed_here (summary_of m) m.functions c.loop-place.place f c.get-function.ensures e
