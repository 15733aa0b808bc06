use Rattle.std.proofs.Common.{◌≤◌, ◌<◌, length, take, get_or, sym, ap, ◌∙◌, arith, rules}
use Rattle.gimple_ir.specs.CodeBound.{components_in}
use Rattle.func_summary.proofs.Components.{before-small, length-firsts_of, firsts_of-at, firsts_of-past}
use Rattle.func_summary.proofs.layout.Layout.first.Goals as goal

pub returns-then-place-len-clause-value : goal.returns-then-place-len-clause-value
returns-then-place-len-clause-value c =
    let variables = c.self.inside.function.now.variables in
    let firsts = c.self.invariant.firsts in
    let inside : c.args.variable < length c.self.inside.firsts.items = search rules in
    let known : c.args.variable < length variables = omega (arith, inside, ap length firsts, length-firsts_of variables) in
    c.index.ensures ∙ ap (λ t. get_or t c.args.variable c.index.result.now) firsts
    ∙ firsts_of-at variables c.args.variable c.index.result.now known
    ∙ ap (λ f. components_in (take c.args.variable f.variables)) c.self.view_is

pub returns-then-place-len-clause-small : goal.returns-then-place-len-clause-small
returns-then-place-len-clause-small c =
    let variables = c.self.inside.function.now.variables in
    let firsts = c.self.invariant.firsts in
    let inside : c.args.variable < length c.self.inside.firsts.items = search rules in
    let known : c.args.variable < length variables = omega (arith, inside, ap length firsts, length-firsts_of variables) in
    let is = c.index.ensures ∙ ap (λ t. get_or t c.args.variable c.index.result.now) firsts
    ∙ firsts_of-at variables c.args.variable c.index.result.now known in
    omega (arith, is, before-small variables c.args.variable c.self.invariant.small)

pub returns-else-place-len-clause-value : goal.returns-else-place-len-clause-value
returns-else-place-len-clause-value c =
    let variables = c.self.inside.function.now.variables in
    let past : length c.self.inside.firsts.items ≤ c.args.variable = search rules in
    let unknown : length variables ≤ c.args.variable = omega (arith, past, ap length c.self.invariant.firsts, length-firsts_of variables) in
    c.self.invariant.total ∙ sym (firsts_of-past variables c.args.variable unknown)
    ∙ ap (λ f. components_in (take c.args.variable f.variables)) c.self.view_is
