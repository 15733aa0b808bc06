use Rattle.std.proofs.Common.{◌≡◌, ◌++◌, length, take}
use Rattle.std.specs.List.{flat_map}
use Rattle.cursors.specs.Leb128.{uleb_of}
use Rattle.lto_object.specs.SummaryStream.{facts_bytes}
use Rattle.lto_object.proofs.summary_fields.put_params.Given as goal

abbrev pub invariant-loop-facts : goal.invariant-loop-facts
invariant-loop-facts l = l.out.items ≡ (l.fn.out.items ++ uleb_of (length l.params)) ++ flat_map facts_bytes (take l.facts-index l.params)
