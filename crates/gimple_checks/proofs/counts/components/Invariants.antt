use Rattle.std.proofs.Common.{◌≡◌, ◌-◌, ◌^◌, take}
use Rattle.std.specs.Prelude.{min}
use Rattle.gimple_ir.specs.CodeBound.{components_in}
use Rattle.gimple_checks.proofs.counts.components.Given as goal

abbrev pub invariant-loop-variable : goal.invariant-loop-variable
invariant-loop-variable l = l.total ≡ min (components_in (take l.variable-index l.variables)) (2 ^ 64 - 1)
