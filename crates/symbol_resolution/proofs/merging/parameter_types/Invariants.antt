use Rattle.std.proofs.Common.{◌≡◌, ◌++◌, drop, flat_map}
use Rattle.gimple_ir.specs.declared.types.Variable.{Variable}
use Rattle.symbol_resolution.proofs.merging.parameter_types.Given as goal

abbrev pub invariant-loop-variable : goal.invariant-loop-variable
invariant-loop-variable l = l.types.items ++ flat_map (λ (v : Variable). v.types) (drop l.variable-index l.variable-items) ≡ flat_map (λ (v : Variable). v.types) l.variable-items
