use Rattle.std.proofs.Common.{◌≡◌, take}
use Rattle.lto_object.proofs.checks.copy_edges.Given as goal

abbrev pub invariant-loop-edge : goal.invariant-loop-edge
invariant-loop-edge l = l.copied ≡ take l.edge-index l.edges
