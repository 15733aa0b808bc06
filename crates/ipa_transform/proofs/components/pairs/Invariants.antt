use Rattle.std.proofs.Common.{◌≡◌, ◌+◌, ◌-◌, ◌++◌}
use Rattle.gimple_meaning.specs.Source.{pairs_from}
use Rattle.ipa_transform.proofs.components.pairs.Given as goal

abbrev pub invariant-loop-field : goal.invariant-loop-field
invariant-loop-field l = l.pairs.items ++ pairs_from (l.to + l.field) (l.from + l.field) (l.count - l.field) ≡ pairs_from l.to l.from l.count
