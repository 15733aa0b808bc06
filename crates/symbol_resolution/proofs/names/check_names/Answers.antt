use Rattle.std.proofs.Common.{arith}
use Rattle.symbol_resolution.proofs.MarkLaws.{fault_of_next}
use Rattle.symbol_resolution.proofs.names.check_names.Goals as goal

pub returns-in-Err : goal.returns-in-Err
returns-in-Err c =
    let next = fault_of_next c.args.objects.now c.args.marks.now c.loop-object.object c.args.objects.now c.args.files.now c.index-objects-object.result c.index-files-object.result c.loop-object-test.true (omega arith) c.index-objects-object.is c.index-files-object.is in
    grind (arith, next, c.in-Err.ensures)

pub loop-object-preserved : goal.loop-object-preserved
loop-object-preserved c =
    let next = fault_of_next c.args.objects.now c.args.marks.now c.loop-object.object c.args.objects.now c.args.files.now c.index-objects-object.result c.index-files-object.result c.loop-object-test.true (omega arith) c.index-objects-object.is c.index-files-object.is in
    grind (arith, next)
