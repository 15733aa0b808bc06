use Rattle.std.proofs.Common.{◌≡◌, map, take}
use Rattle.program_link.specs.Versions.{call_use}
use Rattle.program_link.proofs.members.calls.Given as goal

abbrev pub invariant-loop-call : goal.invariant-loop-call
invariant-loop-call l = l.uses.items ≡ map (call_use l.plan) (take l.call-index l.calls)
