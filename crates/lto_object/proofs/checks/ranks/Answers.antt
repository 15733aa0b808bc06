use Rattle.std.proofs.Common.{◌≡◌, ◌+◌, [], length, take, map, arith}
use Rattle.func_summary.proofs.Keyed.{made_more}
use Rattle.gimple_checks.proofs.Lists.{slice_get_at}
use Rattle.lto_object.specs.Bounds.{defined_of}
use Rattle.lto_object.proofs.LoopLaws.{few_defined, count_here}
use Rattle.lto_object.proofs.checks.ranks.Goals as goal

pub overflow_add-count : goal.overflow_add-count
overflow_add-count c =
    let fs = c.args.functions.now in
    let i = c.loop-function.function-index in
    let f = c.function-item.result in
    omega (arith, c.loop-function.invariant.count, c.bodies_in-count.ensures, count_here fs i f (slice_get_at fs i f (omega arith) c.function-item.is), few_defined fs (i + 1), c.requires)

pub loop-function-preserved : goal.loop-function-preserved
loop-function-preserved c =
    let fs = c.args.functions.now in
    let i = c.loop-function.function-index in
    let f = c.function-item.result in
    record {
      made = made_more (λ place. length (defined_of (take place fs))) [] c.loop-function.ranks.items c.push.new.self.items i c.loop-function.count c.loop-function.invariant.made c.in_ok-push.ensures.items c.loop-function.invariant.count;
      count = omega (arith, c.loop-function.invariant.count, c.bodies_in-count.ensures, count_here fs i f (slice_get_at fs i f (omega arith) c.function-item.is));
    }
