use Rattle.std.proofs.Common.{◌≡◌, take, map}
use Rattle.ipa_transform.proofs.members.targets_of.Given as goal

abbrev pub invariant-loop-call : goal.invariant-loop-call
invariant-loop-call l = l.symbols.items ≡ map (λ call. call.symbol) (take l.call-index l.calls)
