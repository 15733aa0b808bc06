use Rattle.std.proofs.Common.{◌≡◌, ◌-◌, ◌^◌, ◌+◌, ◌*◌, take}
use Rattle.std.specs.Prelude.{min, sum_by}
use Rattle.gimple_ir.specs.CodeBound.{operands_in}
use Rattle.gimple_checks.proofs.bound.statements_bound.Given as goal

abbrev pub invariant-loop-statement : goal.invariant-loop-statement
invariant-loop-statement l =
    l.total ≡ min (sum_by (λ s. 7 + 11 * operands_in l.function.variables s) (take l.statement-index l.body)) (2 ^ 64 - 1)
