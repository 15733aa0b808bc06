use Rattle.std.proofs.Common.{◌≡◌, map, take}
use Rattle.gimple_ir.specs.declared.types.Variable.{Variable}
use Rattle.program_link.proofs.members.variables.Given as goal

abbrev pub invariant-loop-variable : goal.invariant-loop-variable
invariant-loop-variable l = l.types.items ≡ map (λ (v : Variable). v.types) (take l.variable-index l.variables)
