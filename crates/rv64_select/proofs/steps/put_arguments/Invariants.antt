use Rattle.std.proofs.Common.{◌≡◌, ◌++◌, drop}
use Rattle.rv64_select.specs.Assembly.{argument_items}
use Rattle.rv64_select.proofs.steps.put_arguments.Given as goal

abbrev pub invariant-loop-place : goal.invariant-loop-place
invariant-loop-place l = l.out.items ++ argument_items l.layout l.place (drop l.place l.args) ≡ l.initial.out.items ++ argument_items l.layout 0 l.args
