use Rattle.std.proofs.Common.{◌≡◌, [], ◌∷◌, ◌++◌, arith}
use Rattle.std.proofs.lemmas.Result.{err_from_is_err_and}
use Rattle.text_lines.specs.Reading.{counted}
use Rattle.text_lines.proofs.Rows.{refused_at, taken_at}
use Rattle.resolution_text.specs.Reading.{resolved_by}
use Rattle.resolution_text.proofs.reading.resolved_lines.Goals as goal

pub returns-in_err-word : goal.returns-in_err-word
returns-in_err-word c =
    let p = err_from_is_err_and c.from_residual.result c.from_residual.ensures.1 in
    rw (p.1, p.2) (refused_at resolved_by c.in_err-word.field-0.0 c.loop-slot.words c.args.count c.loop-slot.slot c.loop-slot.lines (counted resolved_by c.args.count 0 c.args.lines.now) c.loop-slot-test.true c.in_err-word.ensures c.loop-slot.invariant)

pub loop-slot-preserved : goal.loop-slot-preserved
loop-slot-preserved c =
    let more = taken_at resolved_by c.loop-slot.words c.in_ok-word.word c.args.count c.loop-slot.slot c.loop-slot.lines c.one_resolved.new.lines (counted resolved_by c.args.count 0 c.args.lines.now) c.loop-slot-test.true c.in_ok-word.ensures c.loop-slot.invariant in
    let pushed : c.push.new.self ≡ c.loop-slot.words ++ c.in_ok-word.word ∷ [] = grind (arith, c.in_ok-push.ensures.ok) in
    rw pushed more
