use Rattle.std.proofs.Common.{◌≤◌, length, sym, ap, ◌∙◌, arith, rules}
use Rattle.gimple_ir.specs.CodeBound.{components_of}
use Rattle.func_summary.proofs.Components.{components_of-small, components_of-at, components_of-past}
use Rattle.func_summary.proofs.layout.Layout.fields.Goals as goal

pub overflow_cast-result : goal.overflow_cast-result
overflow_cast-result c =
    let variables = c.self.inside.function.now.variables in
    let small = components_of-small variables c.args.variable c.self.invariant.small in
    omega (arith, small, components_of-at variables c.args.variable c.get.result.now c.get.ensures, c.len-then-place-len.ensures)

pub returns-then-place-len-clause-small : goal.returns-then-place-len-clause-small
returns-then-place-len-clause-small c =
    let small = components_of-small c.self.inside.function.now.variables c.args.variable c.self.invariant.small in
    omega (arith, small, ap (λ f. components_of f.variables c.args.variable) c.self.view_is)

pub returns-else-place-len-clause-value : goal.returns-else-place-len-clause-value
returns-else-place-len-clause-value c =
    let past : length c.self.inside.function.now.variables ≤ c.args.variable = search rules in
    sym (components_of-past c.self.inside.function.now.variables c.args.variable past)
    ∙ ap (λ f. components_of f.variables c.args.variable) c.self.view_is

pub returns-else-place-len-clause-small : goal.returns-else-place-len-clause-small
returns-else-place-len-clause-small c =
    let small = components_of-small c.self.inside.function.now.variables c.args.variable c.self.invariant.small in
    omega (arith, small, ap (λ f. components_of f.variables c.args.variable) c.self.view_is)
