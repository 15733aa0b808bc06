use Rattle.std.proofs.Common.{◌≡◌, ◌*◌, ◌≤◌, length, sum}
use Rattle.bench.proofs.partition.sizes_of.Given as goal

abbrev pub invariant-loop : goal.invariant-loop
invariant-loop l = (length l.sizes.items ≡ l.counter) × (sum l.sizes.items ≤ l.counter * 1023)
