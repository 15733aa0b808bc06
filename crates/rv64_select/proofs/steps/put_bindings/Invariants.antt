use Rattle.std.proofs.Common.{◌≡◌, ◌++◌, drop}
use Rattle.rv64_select.specs.Assembly.{bindings_items}
use Rattle.rv64_select.proofs.steps.put_bindings.Given as goal

abbrev pub invariant-loop-component : goal.invariant-loop-component
invariant-loop-component l = l.out.items ++ bindings_items l.layout l.component (drop l.component l.bindings) ≡ l.initial.out.items ++ bindings_items l.layout 0 l.bindings
