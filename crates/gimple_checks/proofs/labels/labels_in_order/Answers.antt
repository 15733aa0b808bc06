use Rattle.std.proofs.Common.{◌≡◌, ◌+◌, ◌∷◌, drop, length, false, arith, ap, ◌∙◌, sym, refl}
use Rattle.std.specs.List.{filter_map, cons_option}
use Rattle.gimple_ir.specs.Checks.{label_of, counts_up}
use Rattle.gimple_checks.proofs.LabelOrder.{labels-here, counts_up-wrong, counts_up-right}
use Rattle.gimple_checks.proofs.labels.labels_in_order.Goals as goal
use Rattle.gimple_checks.proofs.labels.labels_in_order.Goals.{in-Some+else-label-next, in_default}

pub returns-then-label-next : goal.returns-then-label-next
returns-then-label-next c =
    let rest = filter_map label_of (drop (c.loop-place.place + 1) c.args.body.now) in
    let here = labels-here c.args.body.now c.loop-place.place c.get.result.now c.label_of.result c.get.ensures c.label_of.ensures in
    let order : counts_up 0 (filter_map label_of c.args.body.now) ≡ false =
    c.loop-place.invariant.order
    ∙ ap (counts_up c.loop-place.next) (here ∙ ap (λ o. cons_option o rest) c.in-Some.is)
    ∙ counts_up-wrong c.loop-place.next c.in-Some.label rest c.if-label-next.true in
    rw order refl

pub loop-place-preserved : goal.loop-place-preserved
loop-place-preserved c =
    let rest = filter_map label_of (drop (c.loop-place.place + 1) c.args.body.now) in
    let here = labels-here c.args.body.now c.loop-place.place c.get.result.now c.label_of.result c.get.ensures c.label_of.ensures in
    elim c.match-label_of.branch [
      | in-Some+else-label-next w ↦
          (let some = here ∙ ap (λ o. cons_option o rest) w.in-Some.is in
          let longer : length (filter_map label_of (drop c.loop-place.place c.args.body.now)) ≡ length (w.in-Some.label ∷ rest) = ap length some in
          record {
            order =
                c.loop-place.invariant.order
                ∙ ap (counts_up c.loop-place.next) some
                ∙ counts_up-right c.loop-place.next w.in-Some.label rest w.if-label-next.false
                ∙ ap (λ n. counts_up n rest) (sym w.next-is);
            count = omega arith;
          })
      | in_default w ↦
          (let same = here ∙ ap (λ o. cons_option o rest) w.in_default.is in
          let as_long : length (filter_map label_of (drop c.loop-place.place c.args.body.now)) ≡ length rest = ap length same in
          record {
            order =
                c.loop-place.invariant.order
                ∙ ap (counts_up c.loop-place.next) same
                ∙ ap (λ n. counts_up n rest) (sym w.next-is);
            count = omega arith;
          })
    ]
