use Rattle.gimple_ir.specs.declared.types.Variable.{Variable}
use Rattle.program_link.proofs.Listing.{mapped_more}
use Rattle.program_link.proofs.members.variables.Goals as goal

pub loop-variable-preserved : goal.loop-variable-preserved
loop-variable-preserved c =
    mapped_more (λ (v : Variable). v.types) c.args.variables.now c.loop-variable.variable-index c.variable-item.result _ c.loop-variable.types.items _ c.loop-variable-test.true
    c.variable-item.is c.in_ok-copy.ensures c.loop-variable.invariant c.in_ok-push.ensures.items
