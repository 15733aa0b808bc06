use Rattle.std.proofs.lemmas.Result.{err_from_is_err_and}
use Rattle.gimple_grammar.specs.Grammar.{chain}
use Rattle.gimple_grammar.specs.Items.{initial}
use Rattle.gimple_grammar.proofs.ItemLaws.{initial-sound}
use Rattle.gimple_grammar.proofs.Loops.{shorter, chain_goes, chain_breaks, chain_done}
use Rattle.gimple_grammar.proofs.items.some_initials.Goals as goal

pub next-smaller : goal.next-smaller
next-smaller c =
    let one = c.in_ok-more.ensures in
    shorter (initial c.args.element) (initial-sound c.args.element).law c.next.reader c.add_initial.new.reader (one.0, c.in_ok-more.more) one.1

pub next-preserved : goal.next-preserved
next-preserved c =
    let one = c.in_ok-more.ensures in
    rw one.2 (chain_goes (initial c.args.element) (initial-sound c.args.element).law c.next.found c.next.reader c.add_initial.new.reader one.0 c.next.more c.in_ok-more.more ((chain (initial c.args.element)).read c.args.reader.now) c.next-test.true one.1 c.next.invariant)

pub returns-in_err-more : goal.returns-in_err-more
returns-in_err-more c =
    let p = err_from_is_err_and c.from_residual.result c.from_residual.ensures.1 in
    rw (p.1, p.2) (chain_breaks (initial c.args.element) c.in_err-more.field-0.0 c.next.found c.next.reader c.add_initial.new.reader c.next.more ((chain (initial c.args.element)).read c.args.reader.now) c.next-test.true c.in_err-more.ensures c.next.invariant)

pub returns : goal.returns
returns c = chain_done (initial c.args.element) c.next.found c.next.reader c.next.more ((chain (initial c.args.element)).read c.args.reader.now) c.next-test.false c.next.invariant
