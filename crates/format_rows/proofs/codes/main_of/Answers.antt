use Rattle.std.proofs.Common.{◌∙◌}
use Rattle.format_rows.proofs.TestedFunction.{is_versioned}
use Rattle.format_rows.proofs.codes.main_of.Goals as goal

pub returns : goal.returns
returns c =
    is_versioned (record { symbol = c.in_ok-ok_or.field-0; types = c.new.result; bindings = c.new-2.result; labels = 0; arrays = c.new-3.result; calls = c.new-4.result; body = c.from_vec.result })
    c.literal.result c.literal-2.result c.literal-3.result c.literal.ensures c.literal-2.ensures c.literal-3.ensures
    c.new.ensures c.new-2.ensures (c.from_vec.ensures ∙ c.in_ok-body.ensures.items)
