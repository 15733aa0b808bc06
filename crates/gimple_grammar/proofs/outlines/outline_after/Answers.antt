use Rattle.std.proofs.Common.{refl}
use Rattle.std.proofs.lemmas.Result.{err_from_is_err_and}
use Rattle.gimple_grammar.specs.Items.{array_rest, function_rest, defined_by}
use Rattle.gimple_grammar.specs.Streams.{no_body, defined_outline}
use Rattle.gimple_grammar.specs.declared.parts.Head.TheVariants as heads
use Rattle.gimple_grammar.specs.declared.parts.Defined.TheVariants as defineds
use Rattle.gimple_grammar.proofs.OutlineLaws.{if-left, fails-short, short-fails, short-made}
use Rattle.gimple_grammar.proofs.outlines.outline_after.Goals as goal

pub returns-in_err-length-in-Array : goal.returns-in_err-length-in-Array
returns-in_err-length-in-Array c =
    let p = err_from_is_err_and c.from_residual.result c.from_residual.ensures.1 in
    let h = heads.Array c.in-Array.element c.in-Array.name in
    rw (p.1, p.2, c.in-Array.is) (short-fails (λ x. x) (defined_by h) defined_outline c.in_err-length-in-Array.field-0.0 c.array_rest.new.reader ((array_rest c.in-Array.element).read c.args.reader.now)
    (fails-short (λ x. x) c.in_err-length-in-Array.field-0.0 c.array_rest.new.reader ((array_rest c.in-Array.element).read c.args.reader.now) c.in_err-length-in-Array.ensures))

pub returns-in_ok-length-in-Array : goal.returns-in_ok-length-in-Array
returns-in_ok-length-in-Array c = rw (c.in-Array.is, c.in_ok-length-in-Array.ensures) (if-left c.array_rest.new.reader _ refl)

pub returns-in_err-parameters-in-Function : goal.returns-in_err-parameters-in-Function
returns-in_err-parameters-in-Function c =
    let p = err_from_is_err_and c.from_residual-in_err-parameters-in-Function.result c.from_residual-in_err-parameters-in-Function.ensures.1 in
    let h = heads.Function c.in-Function.ty c.in-Function.name in
    rw (p.1, p.2, c.in-Function.is) (short-fails (λ x. x.0) (defined_by h) defined_outline c.in_err-parameters-in-Function.field-0.0 c.outline_rest.new.reader (function_rest.read c.args.reader.now) c.in_err-parameters-in-Function.ensures)

pub returns-in_ok-parameters-in-Function : goal.returns-in_ok-parameters-in-Function
returns-in_ok-parameters-in-Function c =
    let h = heads.Function c.in-Function.ty c.in-Function.name in
    rw (c.in-Function.is, c.new.ensures, c.new-in-Function.ensures) (short-made (λ x. x.0) (defined_by h) defined_outline (λ x. defineds.Function (record { result = c.in-Function.ty; name = c.in-Function.name; parameters = x }) no_body)
    c.in_ok-parameters-in-Function.parameters c.outline_rest.new.reader (function_rest.read c.args.reader.now) (λ x. refl) c.in_ok-parameters-in-Function.ensures)
