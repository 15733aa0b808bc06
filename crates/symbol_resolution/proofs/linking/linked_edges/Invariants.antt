use Rattle.std.proofs.Common.{◌≡◌, ◌++◌, drop, map}
use Rattle.symbol_resolution.specs.Linking.{linked_edge}
use Rattle.symbol_resolution.proofs.linking.linked_edges.Given as goal

abbrev pub invariant-loop-edge : goal.invariant-loop-edge
invariant-loop-edge l = l.linked ++ map (linked_edge l.functions l.object l.source) (drop l.edge-index l.edges) ≡ map (linked_edge l.functions l.object l.source) l.edges
