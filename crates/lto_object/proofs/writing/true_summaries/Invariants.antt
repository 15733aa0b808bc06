use Rattle.std.proofs.Common.{◌≡◌, map, take}
use Rattle.func_summary.specs.Summaries.{summary_of}
use Rattle.lto_object.specs.Bounds.{defined_of}
use Rattle.lto_object.proofs.writing.true_summaries.Given as goal

abbrev pub invariant-loop-place : goal.invariant-loop-place
invariant-loop-place l = l.summaries.items ≡ map (summary_of l.source) (defined_of (take l.place l.source.functions))
