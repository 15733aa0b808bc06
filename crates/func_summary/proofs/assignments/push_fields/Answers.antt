use Rattle.std.proofs.Common.{ap₂}
use Rattle.gimple_ir.specs.declared.summary.JumpFunction.TheVariants.{Pass}
use Rattle.func_summary.specs.JumpFunctions.{assigns, copy_of_field}
use Rattle.func_summary.proofs.Keyed.{made_more}
use Rattle.func_summary.proofs.assignments.push_fields.Goals as goal

pub loop-field-preserved : goal.loop-field-preserved
loop-field-preserved c =
    made_more (copy_of_field c.args.layout.now.variables c.args.to c.args.from) c.args.assignments.now.items c.loop-field.assignments.items
    c.push.new.self.items c.loop-field.field (assigns c.field-in-loop-field.result (Pass c.field.result)) c.loop-field.invariant c.in_ok-push.ensures.items
    (ap₂ (λ t v. assigns t (Pass v)) c.field-in-loop-field.ensures.value c.field.ensures.value)
