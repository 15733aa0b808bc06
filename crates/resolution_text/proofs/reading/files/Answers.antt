use Rattle.std.proofs.Common.{◌≡◌, [], ◌∷◌, ◌++◌, arith}
use Rattle.text_lines.specs.Reading.{counted}
use Rattle.text_lines.proofs.Rows.{taken_at}
use Rattle.resolution_text.specs.Reading.{file_at}
use Rattle.resolution_text.proofs.reading.files.Goals as goal

pub loop-done-preserved : goal.loop-done-preserved
loop-done-preserved c =
    let more = taken_at file_at c.loop-done.files c.in_ok-file.file c.args.count c.loop-done.done c.loop-done.lines c.one_file.new.lines (counted file_at c.args.count 0 c.args.lines.now) c.loop-done-test.true c.in_ok-file.ensures c.loop-done.invariant in
    let pushed : c.push.new.self ≡ c.loop-done.files ++ c.in_ok-file.file ∷ [] = grind (arith, c.in_ok-push.ensures.ok) in
    rw pushed more
