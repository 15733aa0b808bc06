use Rattle.std.proofs.Common.{◌≡◌, take}
use Rattle.ipa_transform.specs.Versioned.{picked}
use Rattle.ipa_transform.proofs.components.picked.Given as goal

abbrev pub invariant-loop-place : goal.invariant-loop-place
invariant-loop-place l = l.kept.items ≡ picked l.operands (take l.place-index l.places)
