use Rattle.std.proofs.Common.{◌≡◌, ◌+◌, ◌-◌, ◌++◌}
use Rattle.gimple_meaning.specs.Source.{components_from}
use Rattle.ipa_transform.proofs.components.push_components.Given as goal

abbrev pub invariant-loop-field : goal.invariant-loop-field
invariant-loop-field l = l.operands.items ++ components_from (l.first + l.field) (l.count - l.field) ≡ l.initial.operands.items ++ components_from l.first l.count
