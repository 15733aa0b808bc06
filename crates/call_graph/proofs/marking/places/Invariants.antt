use Rattle.std.proofs.Common.{◌≡◌, ◌++◌, ◌-◌, length}
use Rattle.std.specs.List.{filter, range_with_len}
use Rattle.call_graph.specs.Live.{marked}
use Rattle.call_graph.specs.Marking.{places_of}
use Rattle.call_graph.proofs.marking.places.Given as goal

abbrev pub invariant-loop-place : goal.invariant-loop-place
invariant-loop-place l = l.places.items ++ filter (marked l.flags) (range_with_len l.place (length l.flags - l.place)) ≡ places_of l.flags
