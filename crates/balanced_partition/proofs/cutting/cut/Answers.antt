use Rattle.std.proofs.Common.{◌+◌, ◌-◌, ◌*◌, ◌<◌, ◌≤◌, length, sym, subst, arith}
use Rattle.balanced_partition.specs.Cuts.{JoinUp}
use Rattle.balanced_partition.proofs.Counting.{cut_of-IsCut, cuts_of-JoinUp, cuts_of-few}
use Rattle.balanced_partition.proofs.Keeping.{ranges_more, ranges_all}
use Rattle.balanced_partition.proofs.cutting.cut.Goals as goal

pub loop-from-smaller : goal.loop-from-smaller
loop-from-smaller c =
    let versions = c.in_ok-versions.versions in
    let inside : c.loop-from.from < length versions.sizes.now = omega (arith, c.loop-from-test.true, c.count-count.ensures) in
    let cut = cut_of-IsCut versions.sizes.now versions.calls.now versions.aim c.loop-from.from inside in
    let less : c.count-count.result - c.cut_after-to.result < c.count-count.result - c.loop-from.from = omega (arith, cut.after, c.cut_after-to.ensures, c.loop-from-test.true) in
    less

pub loop-from-preserved : goal.loop-from-preserved
loop-from-preserved c =
    let versions = c.in_ok-versions.versions in
    rw c.in_ok-push.ensures.ok (ranges_more versions.sizes.now versions.calls.now versions.aim c.loop-from.ranges c.loop-from.from c.cut_after-to.result (omega (arith, c.loop-from-test.true, c.count-count.ensures)) c.cut_after-to.ensures c.loop-from.invariant)

pub returns-clause-cuts : goal.returns-clause-cuts
returns-clause-cuts c =
    let versions = c.in_ok-versions.versions in
    let of = c.in_ok-versions.ensures in
    ranges_all c.args.sizes.now versions.sizes.now c.args.calls.now versions.calls.now versions.aim c.args.wanted c.loop-from.ranges c.loop-from.from of.sizes of.calls of.aim (omega (arith, c.loop-from-test.false, c.count-count.ensures)) c.loop-from.invariant

pub returns-clause-joined : goal.returns-clause-joined
returns-clause-joined c =
    let versions = c.in_ok-versions.versions in
    let of = c.in_ok-versions.ensures in
    let is = ranges_all c.args.sizes.now versions.sizes.now c.args.calls.now versions.calls.now versions.aim c.args.wanted c.loop-from.ranges c.loop-from.from of.sizes of.calls of.aim (omega (arith, c.loop-from-test.false, c.count-count.ensures)) c.loop-from.invariant in
    subst (JoinUp 0 (length c.args.sizes.now)) (sym is) (cuts_of-JoinUp c.args.sizes.now c.args.calls.now c.args.wanted)

pub returns-clause-few : goal.returns-clause-few
returns-clause-few c =
    let versions = c.in_ok-versions.versions in
    let of = c.in_ok-versions.ensures in
    let is = ranges_all c.args.sizes.now versions.sizes.now c.args.calls.now versions.calls.now versions.aim c.args.wanted c.loop-from.ranges c.loop-from.from of.sizes of.calls of.aim (omega (arith, c.loop-from-test.false, c.count-count.ensures)) c.loop-from.invariant in
    subst (λ ranges. length ranges ≤ 4 * c.args.wanted + 1) (sym is) (cuts_of-few c.args.sizes.now c.args.calls.now c.args.wanted c.requires.sizes c.requires.wanted)
