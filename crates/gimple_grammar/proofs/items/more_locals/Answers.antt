use Rattle.std.proofs.Common.{sym, ◌∙◌}
use Rattle.std.proofs.lemmas.Result.{err_from_is_err_and}
use Rattle.gimple_tokens.specs.Reading.{head_of}
use Rattle.gimple_grammar.specs.Pieces.{is_type, no_type}
use Rattle.gimple_grammar.specs.Grammar.{many}
use Rattle.gimple_grammar.specs.Items.{local}
use Rattle.gimple_grammar.proofs.ItemLaws.{local-sound, no_type-is, type-is}
use Rattle.gimple_grammar.proofs.Loops.{shorter, goes_on, breaks, is_done}
use Rattle.gimple_grammar.proofs.items.more_locals.Goals as goal

pub more-smaller : goal.more-smaller
more-smaller c =
    let one = c.in_ok-add_local.ensures in
    shorter local local-sound.law c.more.reader c.add_local.new.reader one.0 one.1

pub more-preserved : goal.more-preserved
more-preserved c =
    let one = c.in_ok-add_local.ensures in
    rw one.2 (goes_on no_type local local-sound.law c.more.found c.more.reader c.add_local.new.reader one.0 ((many no_type local).read c.args.reader.now) (no_type-is (is_type (head_of c.more.reader)) (sym c.is_type.ensures ∙ c.more-test.true)) one.1 c.more.invariant)

pub returns-in_err-add_local : goal.returns-in_err-add_local
returns-in_err-add_local c =
    let p = err_from_is_err_and c.from_residual.result c.from_residual.ensures.1 in
    rw (p.1, p.2) (breaks no_type local c.in_err-add_local.field-0.0 c.more.found c.more.reader c.add_local.new.reader ((many no_type local).read c.args.reader.now) (no_type-is (is_type (head_of c.more.reader)) (sym c.is_type.ensures ∙ c.more-test.true)) c.in_err-add_local.ensures c.more.invariant)

pub returns : goal.returns
returns c = is_done no_type local c.more.found c.more.reader ((many no_type local).read c.args.reader.now) (type-is (is_type (head_of c.more.reader)) (sym c.is_type.ensures ∙ c.more-test.false)) c.more.invariant
