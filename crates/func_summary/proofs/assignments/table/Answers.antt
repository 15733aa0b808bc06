use Rattle.std.proofs.Common.{◌∙◌}
use Rattle.func_summary.specs.declared.assignments.Assigned.TheVariants.{Never}
use Rattle.func_summary.proofs.Keyed.{rows_none}
use Rattle.func_summary.proofs.assignments.table.Goals as goal

pub loop-assignment-init : goal.loop-assignment-init
loop-assignment-init c = c.in_ok-table.ensures.items_if_clones_equal (λ y h. h) ∙ rows_none Never 0 c.args.count
