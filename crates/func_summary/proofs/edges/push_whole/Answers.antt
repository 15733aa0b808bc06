use Rattle.std.proofs.Common.{ap, ◌∙◌}
use Rattle.func_summary.specs.JumpFunctions.{field_of}
use Rattle.func_summary.specs.Summaries.{component_argument, field_argument}
use Rattle.func_summary.proofs.Keyed.{made_more}
use Rattle.func_summary.proofs.edges.push_whole.Goals as goal

pub loop-field-preserved : goal.loop-field-preserved
loop-field-preserved c =
    let is = c.field-component.ensures.value ∙ ap (λ f. field_of f.variables c.args.variable c.loop-field.field) c.layout-layout.ensures in
    made_more (field_argument c.args.jumps.now c.args.variable) c.args.arguments.now.items c.loop-field.arguments.items c.push.new.self.items
    c.loop-field.field c.component_argument.result c.loop-field.invariant c.in_ok-push.ensures.items
    (c.component_argument.ensures ∙ ap (component_argument c.args.jumps.now) is)
