use Rattle.std.proofs.Common.{◌≡◌, ◌++◌, length, take}
use Rattle.std.specs.List.{flat_map}
use Rattle.cursors.specs.Leb128.{uleb_of}
use Rattle.lto_object.specs.SummaryStream.{edge_bytes}
use Rattle.lto_object.proofs.summary_fields.put_edges.Given as goal

abbrev pub invariant-loop-edge : goal.invariant-loop-edge
invariant-loop-edge l = l.out.items ≡ (l.fn.out.items ++ uleb_of (length l.edges)) ++ flat_map edge_bytes (take l.edge-index l.edges)
