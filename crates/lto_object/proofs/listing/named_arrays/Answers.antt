use Rattle.std.proofs.Common.{◌++◌, [], ap, ◌∙◌, arith}
use Rattle.std.specs.List.{flat_map}
use Rattle.func_summary.specs.Summaries.{arrays_in}
use Rattle.gimple_ir.specs.declared.types.Function.{Function}
use Rattle.lto_object.proofs.LoopSteps.{put_more}
use Rattle.lto_object.proofs.listing.named_arrays.Goals as goal

pub loop-function-preserved : goal.loop-function-preserved
loop-function-preserved c =
    let l = c.loop-function in
    put_more (λ (f : Function). flat_map arrays_in f.body) [] l.named.items c.push_arrays.new.named.items c.args.functions.now l.function-index c.function-item.result (omega arith) c.function-item.is l.invariant
    (c.in_ok-push_arrays.ensures ∙ ap (λ body. l.named.items ++ flat_map arrays_in body) c.as_slice.ensures)
