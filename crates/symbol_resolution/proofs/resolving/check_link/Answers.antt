use Rattle.std.proofs.Common.{arith}
use Rattle.symbol_resolution.specs.Definitions.{kind_in}
use Rattle.symbol_resolution.proofs.Faults.{fault_of_next}
use Rattle.symbol_resolution.proofs.resolving.check_link.Goals as goal

pub returns-in-Err : goal.returns-in-Err
returns-in-Err c =
    let next = fault_of_next (kind_in c.args.table.now.definitions) c.loop-object.object c.args.objects.now c.index-objects-object.result c.loop-object-test.true c.index-objects-object.is in
    grind (arith, next, c.in-Err.ensures)

pub loop-object-preserved : goal.loop-object-preserved
loop-object-preserved c =
    let next = fault_of_next (kind_in c.args.table.now.definitions) c.loop-object.object c.args.objects.now c.index-objects-object.result c.loop-object-test.true c.index-objects-object.is in
    grind (arith, next)
