use Rattle.std.proofs.Common.{◌≡◌, take}
use Rattle.gimple_ir.specs.Statements.{component_types}
use Rattle.lto_object.proofs.bounds.component_types.Given as goal

abbrev pub invariant-loop-variable : goal.invariant-loop-variable
invariant-loop-variable l = l.types.items ≡ component_types (take l.variable-index l.variables)
