use Rattle.std.proofs.Common.{◌≡◌, take}
use Rattle.ipa_transform.proofs.members.arrays_of.Given as goal

abbrev pub invariant-loop-named : goal.invariant-loop-named
invariant-loop-named l = l.copies.items ≡ take l.named-index l.uses
