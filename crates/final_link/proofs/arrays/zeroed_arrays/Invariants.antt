use Rattle.std.proofs.Common.{◌≡◌, ◌++◌, drop}
use Rattle.final_link.specs.Arrays.{zeroed_arrays}
use Rattle.final_link.proofs.arrays.zeroed_arrays.Given as goal

abbrev pub invariant-loop-number : goal.invariant-loop-number
invariant-loop-number l = l.zeroed.items ++ zeroed_arrays l.merged (drop l.number-index l.kept) ≡ zeroed_arrays l.merged l.kept
