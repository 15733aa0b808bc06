use Rattle.std.proofs.Common.{◌≡◌, take}
use Rattle.std.specs.List.{flat_map}
use Rattle.ipa_transform.specs.Versioned.{operands_of}
use Rattle.ipa_transform.proofs.components.operands.Given as goal

abbrev pub invariant-loop-argument : goal.invariant-loop-argument
invariant-loop-argument l = l.operands.items ≡ flat_map (operands_of l.layout.variables) (take l.argument-index l.items)
