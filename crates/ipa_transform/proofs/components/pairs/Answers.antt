use Rattle.std.proofs.Common.{◌+◌, ◌-◌, ◌++◌, sym, ap, ◌∙◌, rules}
use Rattle.gimple_ir.specs.declared.types.Operand.TheVariants.{Component}
use Rattle.gimple_ir.specs.declared.versioned.Pair.{Pair}
use Rattle.gimple_meaning.specs.Source.{pairs_from}
use Rattle.ipa_transform.proofs.Sums.{one_more, next_pair}
use Rattle.ipa_transform.proofs.components.pairs.Goals as goal

pub loop-field-preserved : goal.loop-field-preserved
loop-field-preserved c =
    let to = c.args.to in
    let from = c.args.from in
    let field = c.loop-field.field in
    let pair : Pair = record { to = to + field; from = Component (from + field) } in
    let rest = pairs_from (to + (field + 1)) (from + (field + 1)) (c.args.count - (field + 1)) in
    ap (λ pairs. pairs ++ rest) c.in_ok-push.ensures.items
    ∙ one_more c.loop-field.pairs.items pair rest (pairs_from to from c.args.count)
    (ap (λ more. c.loop-field.pairs.items ++ more) (sym (next_pair to from field c.args.count (search rules))) ∙ c.loop-field.invariant)
