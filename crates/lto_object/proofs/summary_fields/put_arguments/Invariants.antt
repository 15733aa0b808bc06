use Rattle.std.proofs.Common.{◌≡◌, ◌++◌, length, take}
use Rattle.std.specs.List.{flat_map}
use Rattle.cursors.specs.Leb128.{uleb_of}
use Rattle.lto_object.specs.SummaryStream.{argument_bytes}
use Rattle.lto_object.proofs.summary_fields.put_arguments.Given as goal

abbrev pub invariant-loop-argument : goal.invariant-loop-argument
invariant-loop-argument l = l.out.items ≡ (l.fn.out.items ++ uleb_of (length l.arguments)) ++ flat_map argument_bytes (take l.argument-index l.arguments)
