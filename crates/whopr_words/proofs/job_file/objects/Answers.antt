use Rattle.std.proofs.Common.{◌≡◌, [], ◌∷◌, ◌++◌, arith}
use Rattle.text_lines.specs.Reading.{counted}
use Rattle.text_lines.proofs.Rows.{taken_at}
use Rattle.whopr_words.specs.Jobs.{object_at}
use Rattle.whopr_words.proofs.job_file.objects.Goals as goal

pub loop-done-preserved : goal.loop-done-preserved
loop-done-preserved c =
    let more = taken_at object_at c.loop-done.objects c.in_ok-object.object c.args.count c.loop-done.done c.loop-done.lines c.one_object.new.lines (counted object_at c.args.count 0 c.args.lines.now) c.loop-done-test.true c.in_ok-object.ensures c.loop-done.invariant in
    let pushed : c.push.new.self ≡ c.loop-done.objects ++ c.in_ok-object.object ∷ [] = grind (arith, c.in_ok-push.ensures.ok) in
    rw pushed more
