use Rattle.std.proofs.Common.{◌≡◌, [], ◌∷◌, ◌++◌, arith}
use Rattle.whopr_words.specs.Jobs.{links_after}
use Rattle.whopr_words.proofs.LinkRows.{taken_link, few_with}
use Rattle.whopr_words.proofs.job_file.links.Goals as goal

pub loop-done-preserved : goal.loop-done-preserved
loop-done-preserved c =
    let before = c.loop-done.links in
    let job = c.in_ok-job.job in
    let given = rw c.as_slice.ensures at c.in_ok-job.ensures.value in
    let few = rw c.as_slice.ensures at c.in_ok-job.ensures.few in
    let more = taken_link c.args.count c.loop-done.done before c.loop-done.lines c.one_job.new.lines job (links_after c.args.count [] c.args.lines.now) c.loop-done-test.true given c.loop-done.invariant.value in
    let pushed : c.push.new.self ≡ before ++ job ∷ [] = grind (arith, c.in_ok-push.ensures.ok) in
    rw pushed (record { value = more; few = few_with before job few })
