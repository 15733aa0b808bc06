use Rattle.std.proofs.Common.{◌≡◌, ◌++◌, map}
use Rattle.std.specs.List.{range_with_len}
use Rattle.func_summary.specs.Summaries.{place_of_field}
use Rattle.func_summary.proofs.places.push_whole.Given as goal

abbrev pub invariant-loop-field : goal.invariant-loop-field
invariant-loop-field l = l.places.items ≡ l.initial.places.items ++ map (place_of_field l.layout.variables l.is_argument l.variable) (range_with_len 0 l.field)
