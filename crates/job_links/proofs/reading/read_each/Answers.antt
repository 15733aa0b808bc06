use Rattle.std.proofs.Common.{◌≡◌, ◌∙◌, ◌++◌, ◌∷◌, [], ◌≤◌, ◌+◌, arith, take}
use Rattle.std.proofs.lemmas.Grind.{common_steps}
use Rattle.outer_files.specs.Outside.{RoseBy}
use Rattle.job_links.specs.Reads.{GivesFiles, IsSuited, failures, sizes_of, batch_of, size_given, batch_given, reads_of}
use Rattle.job_links.proofs.Told.{told_2, told_there}
use Rattle.job_links.proofs.Counted.{sum_push, sum_more, rose_then}
use Rattle.job_links.proofs.LeastRead.{given_more}
use Rattle.job_links.proofs.Answered.{zip_more}
use Rattle.job_links.proofs.reading.read_each.Goals as goal

pub loop-job-preserved : goal.loop-job-preserved
loop-job-preserved g c =
    let limit = c.args.limit in
    let jobs = c.args.jobs.now in
    let i = c.loop-job.job-index in
    let job = c.job-item.result in
    let before = c.loop-job.readings in
    let reading = c.read_job-reading.result in
    let lt = c.loop-job-test.true in
    let is = c.job-item.is in
    let pushed : c.push.new.self ≡ before ++ reading ∷ [] = grind (arith, common_steps) in
    let same = c.loop-job.invariant.unchanged in
    let old = c.args.total.now in
    let between = c.loop-job.total in
    let now = c.read_job-reading.new.total in
    record {
      unchanged = c.read_job-reading.ensures.unchanged ∙ same;
      never_falls = omega (arith, c.read_job-reading.ensures.never_falls, c.loop-job.invariant.never_falls);
      suited = rw pushed (zip_more (IsSuited limit) jobs before i job reading lt is c.loop-job.invariant.suited c.read_job-reading.ensures.suited);
      counted = rw pushed (rose_then _ _ _ _ _ _ (sum_push failures before reading) c.loop-job.invariant.counted c.read_job-reading.ensures.counted);
      gives = rw pushed (told_2 _ _ _ _ (λ held gives this. zip_more (GivesFiles limit held) jobs before i job reading lt is gives this) c.loop-job.invariant.gives
          (told_there _ _ _ same c.read_job-reading.ensures.gives));
      size = told_2 (λ held. between ≤ old + batch_of limit held (take i jobs)) (λ held. now ≤ between + sizes_of limit held job)
          (λ held. now ≤ old + batch_of limit held (take (i + 1) jobs)) _ (λ held size this. omega (arith, size, this, sum_more (sizes_of limit held) jobs i job lt is)) c.loop-job.invariant.size
          (told_there _ _ _ same c.read_job-reading.ensures.size);
      least = rw pushed (told_2 (λ held. RoseBy (batch_given limit held (take i jobs) before) old between) (λ held. RoseBy (size_given limit held (reads_of job) reading) between now)
          (λ held. RoseBy (batch_given limit held (take (i + 1) jobs) (before ++ reading ∷ [])) old now) _
          (λ held least this. given_more limit held jobs before i job reading old between now lt is c.loop-job.invariant.suited least this) c.loop-job.invariant.least
          (told_there _ _ _ same c.read_job-reading.ensures.least));
    }
