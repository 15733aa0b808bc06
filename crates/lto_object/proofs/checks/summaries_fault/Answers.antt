use Rattle.std.proofs.Common.{◌≡◌, ◌+◌, ◌<◌, Some, None, cond, drop, length, true, false, sym, ap, subst, ◌∙◌, arith}
use Rattle.std.specs.Prelude.{IfSome}
use Rattle.std.proofs.lemmas.List.{drop_all}
use Rattle.gimple_checks.proofs.Lists.{slice_get_at}
use Rattle.lto_object.specs.Bounds.{is_defined}
use Rattle.lto_object.specs.ObjectReading.{first, summary_fault, summaries_fault_from}
use Rattle.lto_object.proofs.Elements.{there}
use Rattle.lto_object.proofs.CheckLaws.{none_left}
use Rattle.lto_object.proofs.LoopLaws.{summary_skipped, summary_none, summary_some}
use Rattle.lto_object.proofs.checks.summaries_fault.Goals as goal

pub returns-then-next-stored : goal.returns-then-next-stored
returns-then-next-stored c =
    let m = c.args.source.now in
    let i = c.loop-place.place in
    sym (c.loop-place.invariant ∙ ap (summaries_fault_from m i (drop i m.functions)) (drop_all c.loop-place.next c.args.stored.now (omega arith)) ∙ none_left m i (drop i m.functions))

pub loop-place-preserved-then-not-is_defined : goal.loop-place-preserved-then-not-is_defined
loop-place-preserved-then-not-is_defined c =
    let m = c.args.source.now in
    let lt : c.loop-place.next < length c.args.stored.now = omega arith in
    let s = there c.args.stored.now c.loop-place.next lt in
    c.loop-place.invariant ∙ summary_skipped m m.functions c.args.stored.now c.loop-place.place c.loop-place.next c.get-function.result.now s.0 c.get-function.ensures s.1 (sym c.is_defined.ensures ∙ c.if-not-is_defined.true)

pub returns-in-Some : goal.returns-in-Some
returns-in-Some c =
    let m = c.args.source.now in
    let f = c.get-function.result.now in
    let s = c.index-stored-next.result in
    let e = subst (λ o. IfSome o (λ g. c.in_ok-summary_fault.field-0 ≡ summary_fault m c.loop-place.place g s)) c.get-function.ensures c.in_ok-summary_fault.ensures in
    sym (c.loop-place.invariant ∙ summary_some m m.functions c.args.stored.now c.loop-place.place c.loop-place.next f s c.in-Some.fault c.get-function.ensures (slice_get_at c.args.stored.now c.loop-place.next s (omega arith) c.index-stored-next.is)
    (sym c.is_defined.ensures ∙ c.if-not-is_defined.false) (sym e ∙ c.in-Some.is))

pub loop-place-preserved : goal.loop-place-preserved
loop-place-preserved c =
    let m = c.args.source.now in
    let f = c.get-function.result.now in
    let s = c.index-stored-next.result in
    let e = subst (λ o. IfSome o (λ g. c.in_ok-summary_fault.field-0 ≡ summary_fault m c.loop-place.place g s)) c.get-function.ensures c.in_ok-summary_fault.ensures in
    c.loop-place.invariant ∙ summary_none m m.functions c.args.stored.now c.loop-place.place c.loop-place.next f s c.get-function.ensures (slice_get_at c.args.stored.now c.loop-place.next s (omega arith) c.index-stored-next.is)
    (sym c.is_defined.ensures ∙ c.if-not-is_defined.false) (sym e ∙ c.in-None.is)
