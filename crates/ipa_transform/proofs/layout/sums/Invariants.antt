use Rattle.std.proofs.Common.{◌≡◌, ◌≤◌, ◌+◌, ◌++◌, drop, length}
use Rattle.std.specs.Prelude.{sum_by}
use Rattle.ipa_transform.specs.Members.{sums_from}
use Rattle.ipa_transform.proofs.layout.sums.Given as goal

abbrev pub invariant-loop-types : goal.invariant-loop-types
invariant-loop-types l = record {
  sums : l.sums.items ++ sums_from l.total (drop l.types-index l.variables) ≡ sums_from 0 l.variables;
  room : l.total + sum_by length (drop l.types-index l.variables) ≤ 1024;
}
