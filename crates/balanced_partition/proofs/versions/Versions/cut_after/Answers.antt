use Rattle.std.proofs.Common.{◌∙◌, sym, arith}
use Rattle.balanced_partition.proofs.Weights.{reach_of-IsReach}
use Rattle.balanced_partition.proofs.Choosing.{cut_of-end}
use Rattle.balanced_partition.proofs.versions.Versions.cut_after.Goals as goal

pub best-requires-clause-from : goal.best-requires-clause-from
best-requires-clause-from c =
    let versions = c.args.self.now in
    let r = reach_of-IsReach versions.sizes.now versions.aim c.args.from c.requires in
    omega (arith, r.after, c.reach-reach.ensures)

pub best-requires-clause-reach : goal.best-requires-clause-reach
best-requires-clause-reach c =
    let versions = c.args.self.now in
    let r = reach_of-IsReach versions.sizes.now versions.aim c.args.from c.requires in
    omega (arith, r.within, c.reach-reach.ensures, c.count.ensures, c.if-reach-count.false)

pub returns-then-reach-count : goal.returns-then-reach-count
returns-then-reach-count c =
    let versions = c.args.self.now in
    let end = c.if-reach-count.true ∙ c.count.ensures in
    end ∙ sym (cut_of-end versions.sizes.now versions.calls.now versions.aim c.args.from (sym c.reach-reach.ensures ∙ end))
