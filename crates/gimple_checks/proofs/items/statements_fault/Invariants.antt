use Rattle.std.proofs.Common.{◌≡◌, drop}
use Rattle.gimple_ir.specs.Statements.{statement_kind}
use Rattle.gimple_ir.specs.Checks.{faults_from, fault_at, statements_fault}
use Rattle.gimple_checks.proofs.items.statements_fault.Given as goal

abbrev pub invariant-loop-place : goal.invariant-loop-place
invariant-loop-place l =
    statements_fault l.scope l.item l.scope.function.body
    ≡ faults_from (λ place st. fault_at l.item place (statement_kind l.scope st)) l.place (drop l.place l.scope.function.body)
