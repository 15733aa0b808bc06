use Rattle.std.proofs.Common.{◌≡◌, map, take}
use Rattle.ipa_plan.specs.Plans.{call_plan}
use Rattle.ipa_plan.proofs.versions.calls.Given as goal

abbrev pub invariant-loop-edge : goal.invariant-loop-edge
invariant-loop-edge l = l.calls.items ≡ map (call_plan l.merged l.numbering.live) (take l.edge-index l.edges)
