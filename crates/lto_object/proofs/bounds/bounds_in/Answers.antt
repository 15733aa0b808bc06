use Rattle.std.proofs.Common.{arith}
use Rattle.lto_object.specs.Bounds.{bounds_of}
use Rattle.lto_object.proofs.LoopSteps.{defined_more}
use Rattle.lto_object.proofs.bounds.bounds_in.Goals as goal

pub loop-function-preserved : goal.loop-function-preserved
loop-function-preserved c =
    let l = c.loop-function in
    defined_more (bounds_of c.args.source.now) l.bounds.items c.push_bounds.new.bounds.items c.as_slice-functions.result.now l.function-index c.function-item.result (omega arith) c.function-item.is l.invariant c.in_ok-push_bounds.ensures
