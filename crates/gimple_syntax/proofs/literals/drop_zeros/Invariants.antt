use Rattle.std.proofs.Common.{◌≡◌, length}
use Rattle.gimple_syntax.specs.Numbers.{shortened}
use Rattle.gimple_syntax.proofs.literals.drop_zeros.Given as goal

abbrev pub decreases-zeros : goal.decreases-zeros
decreases-zeros l = length l.values.items

abbrev pub invariant-zeros : goal.invariant-zeros
invariant-zeros l = shortened l.values.items ≡ shortened l.fn.values.items
