use Rattle.std.proofs.Common.{◌≡◌, ◌++◌, take}
use Rattle.std.specs.List.{flat_map}
use Rattle.func_summary.specs.Summaries.{arrays_in}
use Rattle.lto_object.proofs.listing.push_arrays.Given as goal

abbrev pub invariant-loop-statement : goal.invariant-loop-statement
invariant-loop-statement l = l.named.items ≡ l.fn.named.items ++ flat_map arrays_in (take l.statement-index l.body)
