use Rattle.std.proofs.lemmas.Result.{err_from_is_err_and}
use Rattle.gimple_grammar.specs.Items.{defined, with_linkage}
use Rattle.gimple_grammar.specs.Streams.{without_body, defined_outline}
use Rattle.gimple_grammar.proofs.OutlineLaws.{short-fails, linked-short}
use Rattle.gimple_grammar.proofs.outlines.outline_linked.Goals as goal

pub returns-in_err-defined : goal.returns-in_err-defined
returns-in_err-defined c =
    let p = err_from_is_err_and c.from_residual.result c.from_residual.ensures.1 in
    rw (p.1, p.2) (short-fails defined_outline (with_linkage c.args.linkage) without_body c.in_err-defined.field-0.0 c.outline_defined.new.reader (defined.read c.args.reader.now) c.in_err-defined.ensures)

pub returns : goal.returns
returns c = rw c.with_linkage.ensures (linked-short c.args.linkage c.in_ok-defined.defined c.outline_defined.new.reader (defined.read c.args.reader.now) c.in_ok-defined.ensures)
