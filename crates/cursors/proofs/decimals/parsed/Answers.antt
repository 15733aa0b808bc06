use Rattle.std.proofs.Common.{◌≡◌, sym, ap, subst, ◌∙◌}
use Rattle.std.specs.Str.{IsUtf8}
use Rattle.std.specs.Cmp.Lexicographic.{bytes_decides}
use Rattle.std.proofs.lemmas.Str.{IsUtf8-from_ascii}
use Rattle.std.proofs.lemmas.Fmt.{IsAscii-decimal, parse-decimal}
use Rattle.cursors.proofs.DecimalLaws.{some}
use Rattle.cursors.proofs.decimals.parsed.Goals as goal

pub returns-in_default-clause-only : goal.returns-in_default-clause-only
returns-in_default-clause-only c = λ n lt e. absurd (c.in_default.ensures.cases.0 (subst IsUtf8 (sym e) (IsUtf8-from_ascii _ (IsAscii-decimal n lt))))

pub returns-in_default-parse-clause-only : goal.returns-in_default-parse-clause-only
returns-in_default-parse-clause-only c = λ n lt e.
    absurd (c.in_default-parse.not-Ok n (parse-decimal 64 n c.in-Ok.words.now c.parse.result lt lt (c.in-Ok.ensures.cases.0 ∙ e) c.parse.ensures.value.0))

pub returns-then-eq-clause-only : goal.returns-then-eq-clause-only
returns-then-eq-clause-only c = λ n lt e.
    let read = parse-decimal 64 n c.in-Ok.words.now c.parse.result lt lt (c.in-Ok.ensures.cases.0 ∙ e) c.parse.ensures.value.0 in
    let number : c.in-Ok-parse.number ≡ n = let is = c.in-Ok-parse.is in cc in
    ap some number

pub returns-else-eq-clause-only : goal.returns-else-eq-clause-only
returns-else-eq-clause-only c = λ n lt e.
    let read = parse-decimal 64 n c.in-Ok.words.now c.parse.result lt lt (c.in-Ok.ensures.cases.0 ∙ e) c.parse.ensures.value.0 in
    let number : c.in-Ok-parse.number ≡ n = let is = c.in-Ok-parse.is in cc in
    let equal : c.as_bytes.result.now ≡ c.args.text.now = c.as_bytes.ensures.value ∙ c.format.ensures.text ∙ rw number (sym e) in
    let tested = (bytes_decides c.as_bytes.result.now c.args.text.now).1 equal in
    let untested = c.if-eq.ensures in
    absurd cc
