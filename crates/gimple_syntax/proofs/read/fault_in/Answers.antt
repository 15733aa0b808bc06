use Rattle.std.proofs.Common.{arith}
use Rattle.gimple_syntax.specs.Passes.{items_read}
use Rattle.gimple_syntax.proofs.Texts.{length-module_of}
use Rattle.gimple_syntax.proofs.Outlined.{module-is, line-found, not-stuck}
use Rattle.gimple_syntax.proofs.read.fault_in.Goals as goal

pub check_fault-requires-clause-module_of_items : goal.check_fault-requires-clause-module_of_items
check_fault-requires-clause-module_of_items c =
    rw c.as_slice.ensures (module-is (items_read c.args.text.now) c.in-Ok.items c.args.source.now c.in-Ok.ensures.exact c.requires.read)

pub check_fault-requires-clause-few : goal.check_fault-requires-clause-few
check_fault-requires-clause-few c =
    let is = module-is (items_read c.args.text.now) c.in-Ok.items c.args.source.now c.in-Ok.ensures.exact c.requires.read in
    let all = length-module_of c.in-Ok.items c.args.source.now is in
    omega (arith, all, c.in-Ok.ensures.few)

pub returns-in-Ok : goal.returns-in-Ok
returns-in-Ok c =
    let same = rw c.as_slice.ensures at c.check_fault.ensures in
    line-found (items_read c.args.text.now) c.in-Ok.items c.args.fault c.check_fault.result c.in-Ok.ensures.exact same

pub unreachable-requires : goal.unreachable-requires
unreachable-requires c =
    let at_fault = rw c.in-Err-Fault.field-0-is at c.in-Err-Fault.ensures.exact in
    not-stuck (items_read c.args.text.now) c.args.source.now c.in-Err-Fault.field-0-0 at_fault c.requires.read
