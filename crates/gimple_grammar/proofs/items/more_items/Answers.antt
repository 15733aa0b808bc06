use Rattle.std.proofs.Common.{sym, ◌∙◌}
use Rattle.std.proofs.lemmas.Result.{err_from_is_err_and}
use Rattle.gimple_tokens.specs.Tokens.{End}
use Rattle.gimple_tokens.specs.Reading.{same}
use Rattle.gimple_grammar.specs.Grammar.{many}
use Rattle.gimple_grammar.specs.Items.{item_line}
use Rattle.gimple_grammar.proofs.ItemLaws.{item_line-sound}
use Rattle.gimple_grammar.proofs.Loops.{shorter, goes_on, breaks, is_done}
use Rattle.gimple_grammar.proofs.items.more_items.Goals as goal

pub more-smaller : goal.more-smaller
more-smaller c =
    let one = c.in_ok-add_item.ensures in
    shorter item_line item_line-sound.law c.more.reader c.add_item.new.reader one.0 one.1

pub more-preserved : goal.more-preserved
more-preserved c =
    let one = c.in_ok-add_item.ensures in
    rw one.2 (goes_on (same End) item_line item_line-sound.law c.more.found c.more.reader c.add_item.new.reader one.0 ((many (same End) item_line).read c.args.reader.now) (sym c.is_end.ensures.value ∙ c.more-test.true) one.1 c.more.invariant)

pub returns-in_err-add_item-clause-given : goal.returns-in_err-add_item-clause-given
returns-in_err-add_item-clause-given c =
    let p = err_from_is_err_and c.from_residual.result c.from_residual.ensures.1 in
    rw (p.1, p.2) (breaks (same End) item_line c.in_err-add_item.field-0.0 c.more.found c.more.reader c.add_item.new.reader ((many (same End) item_line).read c.args.reader.now) (sym c.is_end.ensures.value ∙ c.more-test.true) c.in_err-add_item.ensures c.more.invariant)

pub returns-clause-given : goal.returns-clause-given
returns-clause-given c = is_done (same End) item_line c.more.found c.more.reader ((many (same End) item_line).read c.args.reader.now) (sym c.is_end.ensures.value ∙ c.more-test.false) c.more.invariant
