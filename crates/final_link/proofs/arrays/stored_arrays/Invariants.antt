use Rattle.std.proofs.Common.{◌≡◌, ◌++◌, drop}
use Rattle.final_link.specs.Arrays.{stored_arrays}
use Rattle.final_link.proofs.arrays.stored_arrays.Given as goal

abbrev pub invariant-loop-number : goal.invariant-loop-number
invariant-loop-number l = l.stored.items ++ stored_arrays l.merged (drop l.number-index l.kept) ≡ stored_arrays l.merged l.kept
