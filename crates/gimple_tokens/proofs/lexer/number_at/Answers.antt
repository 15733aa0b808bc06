use Rattle.std.proofs.Common.{◌≡◌, ◌∷◌, ◌+◌, take, refl, add-one}
use Rattle.gimple_tokens.specs.Tokens.{number_at}
use Rattle.gimple_tokens.proofs.lexer.number_at.Goals as goal

pub returns-clause-value : goal.returns-clause-value
unfolding number_at
returns-clause-value c =
    let front : take (c.digits-len.result + 1) c.args.text.now ≡ c.args.first ∷ take c.digits-len.result c.args.after.now = rw (c.requires, add-one) refl in
    rw (← c.digits-len.ensures.value, ← c.bytes_from.ensures, ← c.suffix_at-suffix.ensures, ← c.is_led_by_zero.ensures, c.if-is_led_by_zero.false, c.value_of-value.ensures, c.suffix_len.ensures, front) refl
