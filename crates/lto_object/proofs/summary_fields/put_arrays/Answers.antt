use Rattle.std.proofs.Common.{◌++◌, length, ap, ◌∙◌, arith}
use Rattle.cursors.specs.Leb128.{uleb_of}
use Rattle.lto_object.proofs.LoopSteps.{put_more_at}
use Rattle.lto_object.proofs.summary_fields.put_arrays.Goals as goal

pub loop-array-preserved : goal.loop-array-preserved
loop-array-preserved c =
    let l = c.loop-array in
    put_more_at uleb_of (c.args.out.now.items ++ uleb_of (length c.args.arrays.now)) l.out.items c.put_uleb-in-loop-array.new.out.items c.args.arrays.now l.array-index 0 (omega arith) l.invariant
    (c.in_ok-put_uleb-2.ensures.ok ∙ ap (λ n. l.out.items ++ uleb_of n) c.from.ensures)
