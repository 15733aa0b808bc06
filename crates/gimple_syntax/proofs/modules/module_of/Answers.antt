use Rattle.std.proofs.lemmas.Result.{err_from_is_err_and}
use Rattle.gimple_syntax.specs.Items.{module_of}
use Rattle.gimple_syntax.specs.Passes.{functions_from, items_read}
use Rattle.gimple_syntax.proofs.Outlined.{numbered, same-fault}
use Rattle.gimple_syntax.proofs.modules.module_of.Goals as goal

pub returns-in_err-functions : goal.returns-in_err-functions
returns-in_err-functions c =
    let p = err_from_is_err_and c.from_residual-in_err-functions.result c.from_residual-in_err-functions.ensures.1 in
    rw (p.1, p.2) (same-fault (functions_from c.in_ok-names.names) module_of c.in_err-functions.field-0.0 (items_read c.args.text.now) c.in_err-functions.ensures)

pub returns : goal.returns
returns c =
    rw (c.in_ok-structs.ensures, c.in_ok-arrays.ensures)
    (numbered (items_read c.args.text.now) c.args.outlines.now c.in_ok-names.names c.in_ok-functions.functions c.requires.outlined c.in_ok-names.ensures c.in_ok-functions.ensures)
