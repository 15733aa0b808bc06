use Rattle.std.proofs.Common.{◌≤◌, length, sym, ap, ◌∙◌, arith, rules}
use Rattle.ipa_transform.specs.Versioned.{field_count}
use Rattle.ipa_transform.proofs.Sums.{field_count-within, field_count-at, field_count-past}
use Rattle.ipa_transform.proofs.layout.Layout.fields.Goals as goal

pub overflow_cast-result : goal.overflow_cast-result
overflow_cast-result c =
    let variables = c.self.inside.member.now.variables in
    omega (
      arith,
      field_count-within variables c.args.variable,
      c.self.invariant.0.components,
      field_count-at variables c.args.variable c.get.result.now c.get.ensures,
      c.len-then-place-len.ensures,
    )

pub returns-then-place-len-clause-small : goal.returns-then-place-len-clause-small
returns-then-place-len-clause-small c =
    let variables = c.self.inside.member.now.variables in
    omega (arith, field_count-within variables c.args.variable, c.self.invariant.0.components, ap (λ m. field_count m.variables c.args.variable) c.self.view_is)

pub returns-else-place-len-clause-value : goal.returns-else-place-len-clause-value
returns-else-place-len-clause-value c =
    let past : length c.self.inside.member.now.variables ≤ c.args.variable = search rules in
    sym (field_count-past c.self.inside.member.now.variables c.args.variable past) ∙ ap (λ m. field_count m.variables c.args.variable) c.self.view_is

pub returns-else-place-len-clause-small : goal.returns-else-place-len-clause-small
returns-else-place-len-clause-small c =
    let variables = c.self.inside.member.now.variables in
    omega (arith, field_count-within variables c.args.variable, c.self.invariant.0.components, ap (λ m. field_count m.variables c.args.variable) c.self.view_is)
