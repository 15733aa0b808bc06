use Rattle.std.proofs.Common.{◌++◌, [], ap, ◌∙◌, arith}
use Rattle.gimple_ir.specs.declared.types.Variable.{Variable}
use Rattle.lto_object.proofs.LoopSteps.{put_more}
use Rattle.lto_object.proofs.bounds.component_types.Goals as goal

pub loop-variable-preserved : goal.loop-variable-preserved
loop-variable-preserved c =
    let l = c.loop-variable in
    put_more (λ (v : Variable). v.types) [] l.types.items c.extend_from_slice.new.self.items c.args.variables.now l.variable-index c.variable-item.result (omega arith) c.variable-item.is l.invariant
    (c.in_ok-extend_from_slice.ensures.items ∙ ap (λ types. l.types.items ++ types) c.as_slice.ensures)
