use Rattle.std.proofs.Common.{sym, arith}
use Rattle.balanced_partition.proofs.Weights.{reach_of-is}
use Rattle.balanced_partition.proofs.versions.Versions.reach.Goals as goal

pub returns-else-weight-self : goal.returns-else-weight-self
returns-else-weight-self c =
    let versions = c.args.self.now in
    let kept = c.loop-place.invariant in
    sym (reach_of-is versions.sizes.now versions.aim c.args.from c.loop-place.place (record {
      after = kept.0;
      within = kept.1;
      fits = kept.2;
      stops = λ _. omega (arith, c.if-weight-self.false, c.weight.ensures);
    }))

pub returns-after-loop-place : goal.returns-after-loop-place
returns-after-loop-place c =
    let versions = c.args.self.now in
    let kept = c.loop-place.invariant in
    sym (reach_of-is versions.sizes.now versions.aim c.args.from c.loop-place.place (record {
      after = kept.0;
      within = kept.1;
      fits = kept.2;
      stops = λ inside. absurd (omega (arith, inside, c.loop-place-test.false, c.count-count.ensures));
    }))
