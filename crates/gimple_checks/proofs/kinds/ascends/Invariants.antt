use Rattle.std.proofs.Common.{◌≡◌, map, drop}
use Rattle.gimple_ir.specs.Statements.{ascends, ascends_above}
use Rattle.gimple_checks.proofs.kinds.ascends.Given as goal

abbrev pub invariant-loop-place : goal.invariant-loop-place
invariant-loop-place l =
    ascends_above l.before.value.num (map (λ c. c.value.num) (drop l.place l.cases)) ≡ ascends (map (λ c. c.value.num) l.cases)
