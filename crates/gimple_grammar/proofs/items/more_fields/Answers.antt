use Rattle.std.proofs.Common.{sym, ◌∙◌}
use Rattle.std.proofs.lemmas.Result.{err_from_is_err_and}
use Rattle.gimple_tokens.specs.declared.token.Mark.TheVariants.{CloseCurly}
use Rattle.gimple_tokens.specs.Tokens.{Sign}
use Rattle.gimple_tokens.specs.Reading.{same}
use Rattle.gimple_grammar.specs.Grammar.{many}
use Rattle.gimple_grammar.specs.Items.{field_text}
use Rattle.gimple_grammar.proofs.ItemLaws.{field_text-sound}
use Rattle.gimple_grammar.proofs.Loops.{shorter, goes_on, breaks, is_done}
use Rattle.gimple_grammar.proofs.items.more_fields.Goals as goal

pub more-smaller : goal.more-smaller
more-smaller c =
    let one = c.in_ok-add_field.ensures in
    shorter field_text field_text-sound.law c.more.reader c.add_field.new.reader one.0 one.1

pub more-preserved : goal.more-preserved
more-preserved c =
    let one = c.in_ok-add_field.ensures in
    rw one.2 (goes_on (same (Sign CloseCurly)) field_text field_text-sound.law c.more.found c.more.reader c.add_field.new.reader one.0 ((many (same (Sign CloseCurly)) field_text).read c.args.reader.now) (sym c.is_sign.ensures ∙ c.more-test.true) one.1 c.more.invariant)

pub returns-in_err-add_field : goal.returns-in_err-add_field
returns-in_err-add_field c =
    let p = err_from_is_err_and c.from_residual.result c.from_residual.ensures.1 in
    rw (p.1, p.2) (breaks (same (Sign CloseCurly)) field_text c.in_err-add_field.field-0.0 c.more.found c.more.reader c.add_field.new.reader ((many (same (Sign CloseCurly)) field_text).read c.args.reader.now) (sym c.is_sign.ensures ∙ c.more-test.true) c.in_err-add_field.ensures c.more.invariant)

pub returns : goal.returns
returns c = is_done (same (Sign CloseCurly)) field_text c.more.found c.more.reader ((many (same (Sign CloseCurly)) field_text).read c.args.reader.now) (sym c.is_sign.ensures ∙ c.more-test.false) c.more.invariant
