use Rattle.std.proofs.Common.{◌≡◌, take}
use Rattle.std.specs.List.{filter_map, enumerate_from}
use Rattle.func_summary.specs.Summaries.{edge_of}
use Rattle.func_summary.proofs.edges.edges.Given as goal

abbrev pub invariant-loop-place : goal.invariant-loop-place
invariant-loop-place l = l.edges.items ≡ filter_map (λ pair. edge_of l.jumps pair.0 pair.1) (enumerate_from 0 (take l.place l.body))
