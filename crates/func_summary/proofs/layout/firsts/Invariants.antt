use Rattle.std.proofs.Common.{◌≡◌, take, map}
use Rattle.std.specs.List.{range_with_len}
use Rattle.gimple_ir.specs.CodeBound.{components_in}
use Rattle.func_summary.proofs.layout.firsts.Given as goal

abbrev pub invariant-loop-variable : goal.invariant-loop-variable
invariant-loop-variable l = record {
  total : l.total ≡ components_in (take l.variable-index l.variables);
  firsts : l.firsts.items ≡ map (λ v. components_in (take v l.variables)) (range_with_len 0 l.variable-index);
}
