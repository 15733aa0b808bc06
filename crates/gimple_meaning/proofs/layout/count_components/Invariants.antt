use Rattle.std.proofs.Common.{◌≡◌, take}
use Rattle.gimple_ir.specs.CodeBound.{components_in}
use Rattle.gimple_meaning.proofs.layout.count_components.Given as goal

abbrev pub invariant-loop-variable : goal.invariant-loop-variable
invariant-loop-variable l = l.count ≡ components_in (take l.variable-index l.variables)
