use Rattle.std.proofs.Common.{◌≡◌, ◌≤◌, ◌+◌, ◌-◌, length, true, refl, arith}
use Rattle.gimple_syntax.proofs.OutlineLaws.{begins, goes_on, is_done}
use Rattle.gimple_syntax.proofs.outlines.outlines_of.Goals as goal
use Rattle.gimple_syntax.proofs.outlines.outlines_of.Goals.{then-items-test+else-left-gt0, else-items-test}

pub items-init : goal.items-init
items-init c =
    begins c.args.text.now (length c.args.text.now + 1) c.new-found.result c.new-reader.result c.new-found.ensures c.new-reader.ensures.tokens c.new-reader.ensures.few

pub items-preserved : goal.items-preserved
items-preserved c =
    goes_on c.args.text.now c.items.more c.in_ok-more.more c.items.left (c.items.left - 1) c.items.found c.add_outline.new.found c.items.reader c.add_outline.new.reader
    c.items-test.true refl c.in_ok-more.ensures c.items.invariant

pub returns-clause-given : goal.returns-clause-given
returns-clause-given c =
    let ended : c.items.more ≡ true → c.items.left ≤ 0 = elim c.items-test.branch [
      | then-items-test+else-left-gt0 w ↦ λ t. omega (arith, w.if-left-gt0.false)
      | else-items-test w ↦ λ t. absurd (cc (t, w.items-test.false))
    ] in
    is_done c.args.text.now c.items.more c.items.left c.items.found c.items.reader ended c.items.invariant
