use Rattle.std.proofs.Common.{◌+◌, ◌-◌, ◌++◌, sym, ap, ◌∙◌, rules}
use Rattle.gimple_ir.specs.declared.types.Operand.TheVariants.{Component}
use Rattle.gimple_meaning.specs.Source.{components_from}
use Rattle.ipa_transform.proofs.Sums.{one_more, next_component}
use Rattle.ipa_transform.proofs.components.push_components.Goals as goal

pub loop-field-preserved : goal.loop-field-preserved
loop-field-preserved c =
    let first = c.args.first in
    let field = c.loop-field.field in
    let rest = components_from (first + (field + 1)) (c.args.count - (field + 1)) in
    ap (λ operands. operands ++ rest) c.in_ok-push.ensures.items
    ∙ one_more c.loop-field.operands.items (Component (first + field)) rest (c.args.operands.now.items ++ components_from first c.args.count)
    (ap (λ more. c.loop-field.operands.items ++ more) (sym (next_component first field c.args.count (search rules))) ∙ c.loop-field.invariant)
