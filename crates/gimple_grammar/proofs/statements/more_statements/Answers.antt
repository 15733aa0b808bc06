use Rattle.std.proofs.Common.{sym, ◌∙◌}
use Rattle.std.proofs.lemmas.Result.{err_from_is_err_and}
use Rattle.gimple_tokens.specs.declared.token.Mark.TheVariants.{CloseCurly}
use Rattle.gimple_tokens.specs.Tokens.{Sign}
use Rattle.gimple_tokens.specs.Reading.{same}
use Rattle.gimple_grammar.specs.Grammar.{many}
use Rattle.gimple_grammar.specs.Statements.{statement}
use Rattle.gimple_grammar.proofs.StatementLaws.{statement-sound}
use Rattle.gimple_grammar.proofs.Loops.{shorter, goes_on, breaks, is_done}
use Rattle.gimple_grammar.proofs.statements.more_statements.Goals as goal

pub more-smaller : goal.more-smaller
more-smaller c =
    let one = c.in_ok-add_statement.ensures in
    shorter statement statement-sound.law c.more.reader c.add_statement.new.reader one.0 one.1

pub more-preserved : goal.more-preserved
more-preserved c =
    let one = c.in_ok-add_statement.ensures in
    rw one.2 (goes_on (same (Sign CloseCurly)) statement statement-sound.law c.more.found c.more.reader c.add_statement.new.reader one.0 ((many (same (Sign CloseCurly)) statement).read c.args.reader.now) (sym c.is_sign.ensures ∙ c.more-test.true) one.1 c.more.invariant)

pub returns-in_err-add_statement : goal.returns-in_err-add_statement
returns-in_err-add_statement c =
    let p = err_from_is_err_and c.from_residual.result c.from_residual.ensures.1 in
    rw (p.1, p.2) (breaks (same (Sign CloseCurly)) statement c.in_err-add_statement.field-0.0 c.more.found c.more.reader c.add_statement.new.reader ((many (same (Sign CloseCurly)) statement).read c.args.reader.now) (sym c.is_sign.ensures ∙ c.more-test.true) c.in_err-add_statement.ensures c.more.invariant)

pub returns : goal.returns
returns c = is_done (same (Sign CloseCurly)) statement c.more.found c.more.reader ((many (same (Sign CloseCurly)) statement).read c.args.reader.now) (sym c.is_sign.ensures ∙ c.more-test.false) c.more.invariant
