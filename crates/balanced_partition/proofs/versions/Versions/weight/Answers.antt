use Rattle.std.proofs.Common.{arith}
use Rattle.balanced_partition.proofs.Weights.{weight_of-sums}
use Rattle.balanced_partition.proofs.Keeping.{sum_at}
use Rattle.balanced_partition.proofs.versions.Versions.weight.Goals as goal

pub overflow_sub-result : goal.overflow_sub-result
overflow_sub-result c =
    let versions = c.args.self.now in
    let sums = versions.sums.items in
    let upper = sum_at versions.sizes.now sums c.args.place c.index.result.now versions.summed c.requires.place c.index.ensures in
    let lower = sum_at versions.sizes.now sums c.args.from c.index-2.result.now versions.summed (omega (arith, c.requires.from, c.requires.place)) c.index-2.ensures in
    let weight = weight_of-sums versions.sizes.now c.args.from c.args.place c.requires.from in
    omega (arith, upper, lower, weight)

pub returns : goal.returns
returns c =
    let versions = c.args.self.now in
    let sums = versions.sums.items in
    let upper = sum_at versions.sizes.now sums c.args.place c.index.result.now versions.summed c.requires.place c.index.ensures in
    let lower = sum_at versions.sizes.now sums c.args.from c.index-2.result.now versions.summed (omega (arith, c.requires.from, c.requires.place)) c.index-2.ensures in
    let weight = weight_of-sums versions.sizes.now c.args.from c.args.place c.requires.from in
    omega (arith, upper, lower, weight)
