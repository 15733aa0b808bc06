use Rattle.std.proofs.Common.{◌∙◌, sym}
use Rattle.gimple_tokens.proofs.Digits.{no_value, is_value}
use Rattle.gimple_tokens.proofs.lexer.value_of.Goals as goal

pub returns-in_err-value : goal.returns-in_err-value
returns-in_err-value c =
    c.from_residual.ensures ∙ sym (no_value c.loop-digit.value c.loop-digit.digit-index c.args.digits.now c.loop-digit-test.true c.loop-digit.invariant.left (sym c.with_digit.ensures ∙ c.in_err-value.was))

pub returns : goal.returns
returns c = is_value c.loop-digit.value c.loop-digit.digit-index c.args.digits.now c.loop-digit-test.false c.loop-digit.invariant.fits c.loop-digit.invariant.left
