use Rattle.gimple_grammar.specs.Items.{function_rest}
use Rattle.gimple_grammar.proofs.OutlineLaws.{skipped}
use Rattle.gimple_grammar.proofs.outlines.outline_rest.Goals as goal

pub returns : goal.returns
unfolding function_rest
returns c = rw (c.in_ok-parameters.ensures, c.in_ok-expect_sign.ensures) (skipped c.in_ok-parameters.parameters c.expect_sign.new.self c.skip_past_brace.new.self c.skip_past_brace.ensures)
