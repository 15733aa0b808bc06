use Rattle.std.proofs.Common.{◌≡◌, take}
use Rattle.gimple_ir.specs.CodeBound.{components_in}
use Rattle.func_summary.proofs.layout.components_in.Given as goal

abbrev pub invariant-loop-variable : goal.invariant-loop-variable
invariant-loop-variable l = l.total ≡ components_in (take l.variable-index l.variables)
