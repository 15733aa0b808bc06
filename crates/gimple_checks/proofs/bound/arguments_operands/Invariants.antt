use Rattle.std.proofs.Common.{◌≡◌, ◌-◌, ◌^◌, take}
use Rattle.std.specs.Prelude.{min, sum_by}
use Rattle.gimple_ir.specs.CodeBound.{argument_operands}
use Rattle.gimple_checks.proofs.bound.arguments_operands.Given as goal

abbrev pub invariant-loop-argument : goal.invariant-loop-argument
invariant-loop-argument l = l.total ≡ min (sum_by (argument_operands l.variables) (take l.argument-index l.items)) (2 ^ 64 - 1)
