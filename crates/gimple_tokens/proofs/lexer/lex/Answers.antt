use Rattle.std.proofs.Common.{[], ◌∙◌, sym, arith, length-drop}
use Rattle.std.proofs.lemmas.List.{nil_from_length}
use Rattle.gimple_tokens.proofs.Named.{followed-named}
use Rattle.gimple_tokens.proofs.Steps.{after_gap, at_token, at_fault, at_end}
use Rattle.gimple_tokens.proofs.lexer.lex.Goals as goal

pub pieces-preserved : goal.pieces-preserved
pieces-preserved c =
    let first = c.in-Some.ensures.cases in
    record {
      left = rw (c.line_after-line.ensures.value, c.bytes_from-rest.ensures) (sym (after_gap c.pieces.line c.in-Some.first.now c.in-Gap.len c.in-Some.after.now c.pieces.rest.now first.0 c.in-Gap.ensures.value) ∙ c.pieces.invariant.left);
      within = rw (c.bytes_from-rest.ensures) (omega (arith, length-drop c.in-Gap.len c.in-Some.after.now, first.1));
    }

pub returns-in-Whole-clause-tokens : goal.returns-in-Whole-clause-tokens
returns-in-Whole-clause-tokens c =
    let first = c.in-Some.ensures.cases in
    sym c.pieces.invariant.left ∙ rw (c.bytes_from.ensures) (at_token c.pieces.line c.in-Some.first.now c.in-Whole.len _ c.in-Some.after.now c.pieces.rest.now first.0 c.in-Whole.ensures.value)

pub returns-in-Fault-clause-tokens : goal.returns-in-Fault-clause-tokens
returns-in-Fault-clause-tokens c =
    sym c.pieces.invariant.left ∙ at_fault c.pieces.line c.in-Some.first.now c.in-Fault.kind c.in-Some.after.now c.pieces.rest.now [] c.in-Some.ensures.cases.0 c.in-Fault.ensures.value

pub returns-clause-tokens : goal.returns-clause-tokens
returns-clause-tokens c = sym c.pieces.invariant.left ∙ at_end c.pieces.line c.pieces.rest.now [] (nil_from_length c.pieces.rest.now c.in_default.ensures.cases)

pub returns-in-Whole-clause-named : goal.returns-in-Whole-clause-named
returns-in-Whole-clause-named c =
    let first = c.in-Some.ensures.cases in
    followed-named c.args.line c.pieces.line _ c.args.text.now _ (sym c.pieces.invariant.left ∙ at_token c.pieces.line c.in-Some.first.now c.in-Whole.len _ c.in-Some.after.now c.pieces.rest.now first.0 c.in-Whole.ensures.value)
