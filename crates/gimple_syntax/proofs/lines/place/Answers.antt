use Rattle.std.proofs.Common.{◌∙◌, sym, arith}
use Rattle.gimple_grammar.specs.declared.syntax.ItemLine.{ItemLine}
use Rattle.gimple_syntax.specs.Reading.{is_of}
use Rattle.gimple_syntax.proofs.Sorts.{passed, all_passed, found}
use Rattle.gimple_syntax.proofs.lines.place.Goals.{then-is_of+else-left-eq0, else-is_of}
use Rattle.gimple_syntax.proofs.lines.place.Goals as goal

pub loop-item-init : goal.loop-item-init
loop-item-init c = omega arith

pub returns-then-left-eq0 : goal.returns-then-left-eq0
returns-then-left-eq0 c =
    found (λ (i : ItemLine). is_of c.args.sort i.item) c.args.items.now c.loop-item.item-index c.args.number c.item-item.result
    c.loop-item-test.true c.item-item.is (sym c.is_of.ensures ∙ c.if-is_of.true) (omega (arith, c.loop-item.invariant, c.if-left-eq0.true))

pub loop-item-preserved : goal.loop-item-preserved
loop-item-preserved c =
    let more = passed (λ (i : ItemLine). is_of c.args.sort i.item) c.args.items.now c.loop-item.item-index c.item-item.result c.is_of.result
    c.loop-item-test.true c.item-item.is c.is_of.ensures in
    elim c.if-is_of.branch [
      | then-is_of+else-left-eq0 w ↦ grind (arith, more, c.loop-item.invariant, w.if-is_of, w.left-is, w.if-left-eq0)
      | else-is_of w ↦ grind (arith, more, c.loop-item.invariant, w.if-is_of, w.left-is)
    ]

pub returns : goal.returns
returns c =
    let all = all_passed (λ (i : ItemLine). is_of c.args.sort i.item) c.args.items.now c.loop-item.item-index
    (omega (arith, c.loop-item-test.false, c.loop-item.auto.item-index-end)) in
    omega (arith, all, c.loop-item.invariant)
