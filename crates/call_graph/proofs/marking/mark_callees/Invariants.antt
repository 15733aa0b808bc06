use Rattle.std.proofs.Common.{◌≡◌, drop, length}
use Rattle.call_graph.specs.Marking.{mark_all}
use Rattle.call_graph.proofs.marking.mark_callees.Given as goal

abbrev pub invariant-loop-edge : goal.invariant-loop-edge
invariant-loop-edge l = record {
  rest : mark_all (drop l.edge-index l.edges) (l.live.items, l.waiting.items) ≡ mark_all l.edges (l.fn.live.items, l.fn.waiting.items);
  len : length l.live.items ≡ length l.fn.live.items;
}
