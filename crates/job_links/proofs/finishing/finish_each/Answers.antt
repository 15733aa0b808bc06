use Rattle.std.proofs.Common.{◌≡◌, ◌++◌, ◌∷◌, [], ◌<◌, arith, length}
use Rattle.std.proofs.lemmas.Grind.{common_steps}
use Rattle.std.proofs.lemmas.List.{take_all}
use Rattle.std.proofs.lemmas.Slice.Zip.{AllZip-long}
use Rattle.job_links.specs.Reads.{IsSuited, failures}
use Rattle.job_links.specs.Answers.{failures_in}
use Rattle.job_links.specs.Linking.{Tells}
use Rattle.job_links.proofs.Counted.{counted_more, counted_all}
use Rattle.job_links.proofs.Answered.{zip_at, zip_more, told_more}
use Rattle.job_links.proofs.finishing.finish_each.Goals as goal

pub bounds-readings-place : goal.bounds-readings-place
bounds-readings-place g c =
    let long = AllZip-long _ c.args.jobs.now c.args.readings.now c.requires.suited in
    omega (arith, long, c.loop-place-test.true)

pub finish-line-requires-clause-suited : goal.finish-line-requires-clause-suited
finish-line-requires-clause-suited g c =
    rw (c.index-jobs-place.is, c.index-readings-place.is)
    (zip_at (IsSuited c.args.limit) c.args.jobs.now c.args.readings.now c.loop-place.place c.index-jobs-place.result c.index-readings-place.result c.requires.suited c.loop-place-test.true)

pub loop-place-preserved : goal.loop-place-preserved
loop-place-preserved g c =
    let limit = c.args.limit in
    let jobs = c.args.jobs.now in
    let readings = c.args.readings.now in
    let i = c.loop-place.place in
    let job = c.index-jobs-place.result in
    let reading = c.index-readings-place.result in
    let before = c.loop-place.lines.items in
    let line = c.finish-line.result in
    let lt = c.loop-place-test.true in
    let long = AllZip-long _ jobs readings c.requires.suited in
    let below : i < length readings = omega (arith, long, lt) in
    let pushed : c.push.new.self.items ≡ before ++ line ∷ [] = grind (arith, common_steps) in
    record {
      count = grind (arith, common_steps);
      room = omega (arith, c.loop-place.invariant.room, c.push.ensures.capacity);
      never_falls = omega (arith, c.finish-line.ensures.never_falls, c.loop-place.invariant.never_falls);
      counted = rw pushed (counted_more failures failures_in readings before i reading line _ _ _ below c.index-readings-place.is c.loop-place.invariant.counted c.finish-line.ensures.counted);
      told = rw pushed (zip_more Tells readings before i reading line below c.index-readings-place.is c.loop-place.invariant.told c.finish-line.ensures.told);
      answered = rw pushed (told_more limit jobs readings before i job reading line _ _ _ c.requires.distinct lt c.index-jobs-place.is c.index-readings-place.is
          c.loop-place.invariant.answered c.finish-line.ensures.others c.finish-line.ensures.answered);
    }

pub returns-clause-answered : goal.returns-clause-answered
returns-clause-answered g c =
    let jobs = c.args.jobs.now in
    let past = c.loop-place-test.false in
    let all = take_all c.loop-place.place jobs (omega (arith, past)) in
    rw c.from_vec.ensures (rw all at c.loop-place.invariant.answered)

pub returns-clause-counted : goal.returns-clause-counted
returns-clause-counted g c =
    let readings = c.args.readings.now in
    let long = AllZip-long _ c.args.jobs.now readings c.requires.suited in
    rw c.from_vec.ensures (counted_all failures readings c.loop-place.place _ _ _ (omega (arith, long, c.loop-place-test.false)) c.loop-place.invariant.counted)

pub returns-clause-told : goal.returns-clause-told
returns-clause-told g c =
    let readings = c.args.readings.now in
    let long = AllZip-long _ c.args.jobs.now readings c.requires.suited in
    let all = take_all c.loop-place.place readings (omega (arith, long, c.loop-place-test.false)) in
    rw c.from_vec.ensures (rw all at c.loop-place.invariant.told)
