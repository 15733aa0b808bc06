use Rattle.std.proofs.Common.{arith, inl}
use Rattle.std.proofs.lemmas.Result.{err_from_is_err_and}
use Rattle.gimple_syntax.specs.Items.{module_of}
use Rattle.gimple_syntax.specs.Passes.{items_read}
use Rattle.gimple_syntax.proofs.Outlined.{few-items, passes, fails, unread}
use Rattle.gimple_syntax.proofs.read.checked.Goals as goal

pub check_module-requires : goal.check_module-requires
check_module-requires c =
    few-items (items_read c.args.text.now) c.in_ok-found.found (λ answer given. c.reading_laws.ensures.few answer given c.requires.few) c.in_ok-found.ensures

pub returns-in_err-found : goal.returns-in_err-found
returns-in_err-found c =
    let p = err_from_is_err_and c.from_residual.result c.from_residual.ensures.1 in
    rw (p.1, p.2) (unread module_of c.in_err-found.field-0.0 (items_read c.args.text.now) c.in_err-found.ensures)

pub returns-in-Ok : goal.returns-in-Ok
returns-in-Ok c = passes (items_read c.args.text.now) c.in_ok-found.found c.in_ok-found.ensures c.in-Ok.ensures.ok

pub returns : goal.returns
returns c =
    let some = rw c.in-Err-Fault.field-0-is at c.in-Err-Fault.ensures.err in
    inl (fails (items_read c.args.text.now) c.in_ok-found.found c.in-Err-Fault.fault c.in_ok-fault_in-in-Err-Fault.field-0 c.in_ok-found.ensures some c.in_ok-fault_in-in-Err-Fault.ensures)
