use Rattle.std.proofs.Common.{◌≡◌, ◌==◌, false, ◌∙◌, sym, arith, length-drop}
use Rattle.std.proofs.lemmas.List.{nil_from_length}
use Rattle.gimple_tokens.proofs.Braces.{scan_brace, scan_other, scan_end, scan_meets, none-left}
use Rattle.gimple_tokens.proofs.lexer.past_brace.Goals as goal

pub returns-then-is_brace-clause-value : goal.returns-then-is_brace-clause-value
returns-then-is_brace-clause-value c p ts left =
    sym (scan_brace c.bytes.line c.in-Some.first.now c.in-Some.after.now c.bytes.rest.now c.in-Some.ensures.cases.0 c.if-is_brace.true) ∙ (c.bytes.invariant.left ∙ scan_meets c.args.line 0 c.args.text.now p ts left)

pub bytes-preserved : goal.bytes-preserved
bytes-preserved c =
    let first = c.in-Some.ensures.cases in
    let brace : (c.in-Some.first.now == 125) ≡ false = grind (arith, c.if-is_brace.false) in
    record {
      left = rw (c.bytes_from-rest.ensures, c.comment_at.ensures.value, c.line_after-line.ensures.value) (sym (scan_other c.bytes.line c.in-Some.first.now c.in-Some.after.now c.bytes.rest.now first.0 brace) ∙ c.bytes.invariant.left);
      within = rw (c.bytes_from-rest.ensures) (omega (arith, length-drop c.comment_at.result c.in-Some.after.now, first.1));
    }

pub returns-clause-value : goal.returns-clause-value
returns-clause-value c p ts left =
    none-left (sym (c.bytes.invariant.left ∙ scan_meets c.args.line 0 c.args.text.now p ts left) ∙ scan_end c.bytes.line c.bytes.rest.now (nil_from_length c.bytes.rest.now c.in_default.ensures.cases))
