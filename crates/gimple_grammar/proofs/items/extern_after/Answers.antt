use Rattle.std.proofs.Common.{refl}
use Rattle.std.proofs.lemmas.Result.{err_from_is_err_and}
use Rattle.gimple_grammar.specs.Items.{extern_rest, extern_by}
use Rattle.gimple_grammar.specs.declared.parts.Head.TheVariants as heads
use Rattle.gimple_grammar.proofs.Loops.{made_fails}
use Rattle.gimple_grammar.proofs.items.extern_after.Goals as goal

pub returns-in_err-length-in-Array : goal.returns-in_err-length-in-Array
returns-in_err-length-in-Array c =
    let p = err_from_is_err_and c.from_residual.result c.from_residual.ensures.1 in
    rw (p.1, p.2, c.in-Array.is) (made_fails (extern_by (heads.Array c.in-Array.element c.in-Array.name)) c.in_err-length-in-Array.field-0.0 c.extern_length.new.reader ((extern_rest (heads.Array c.in-Array.element c.in-Array.name)).read c.args.reader.now) c.in_err-length-in-Array.ensures)

pub returns-in_ok-length-in-Array : goal.returns-in_ok-length-in-Array
returns-in_ok-length-in-Array c = rw (c.in-Array.is, c.in_ok-length-in-Array.ensures, c.new.ensures) refl

pub returns-in_err-parameters-in-Function : goal.returns-in_err-parameters-in-Function
returns-in_err-parameters-in-Function c =
    let p = err_from_is_err_and c.from_residual-in_err-parameters-in-Function.result c.from_residual-in_err-parameters-in-Function.ensures.1 in
    rw (p.1, p.2, c.in-Function.is) (made_fails (extern_by (heads.Function c.in-Function.ty c.in-Function.name)) c.in_err-parameters-in-Function.field-0.0 c.extern_parameters.new.reader ((extern_rest (heads.Function c.in-Function.ty c.in-Function.name)).read c.args.reader.now) c.in_err-parameters-in-Function.ensures)

pub returns-in_ok-parameters-in-Function : goal.returns-in_ok-parameters-in-Function
returns-in_ok-parameters-in-Function c = rw (c.in-Function.is, c.in_ok-parameters-in-Function.ensures) refl
