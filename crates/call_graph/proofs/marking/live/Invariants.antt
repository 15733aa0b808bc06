use Rattle.std.proofs.Common.{◌+◌, length}
use Rattle.call_graph.proofs.Search.{IsSearch, unmarked}
use Rattle.call_graph.proofs.marking.live.Given as goal

abbrev pub invariant-loop-place : goal.invariant-loop-place
invariant-loop-place l = IsSearch l.merged l.live.items l.waiting.items

abbrev pub decreases-loop-place : goal.decreases-loop-place
decreases-loop-place l = unmarked l.live.items + length l.waiting.items
