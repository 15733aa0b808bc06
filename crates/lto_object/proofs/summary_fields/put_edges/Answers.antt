use Rattle.std.proofs.Common.{◌++◌, length, arith}
use Rattle.cursors.specs.Leb128.{uleb_of}
use Rattle.lto_object.specs.SummaryStream.{edge_bytes}
use Rattle.lto_object.proofs.LoopSteps.{put_more}
use Rattle.lto_object.proofs.summary_fields.put_edges.Goals as goal

pub loop-edge-preserved : goal.loop-edge-preserved
loop-edge-preserved c =
    let l = c.loop-edge in
    put_more edge_bytes (c.args.out.now.items ++ uleb_of (length c.args.edges.now)) l.out.items c.put_edge.new.out.items c.args.edges.now l.edge-index c.edge-item.result (omega arith) c.edge-item.is l.invariant c.in_ok-put_edge.ensures
