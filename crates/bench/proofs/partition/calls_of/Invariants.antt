use Rattle.std.proofs.Common.{All}
use Rattle.balanced_partition.specs.Cuts.{IsBetween}
use Rattle.bench.proofs.partition.calls_of.Given as goal

abbrev pub invariant-loop : goal.invariant-loop
invariant-loop l = All (IsBetween l.versions) l.calls.items
