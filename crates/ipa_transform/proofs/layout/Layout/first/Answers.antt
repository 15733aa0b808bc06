use Rattle.std.proofs.Common.{◌≡◌, ◌≤◌, ◌<◌, length, get_or, sym, ap, ◌∙◌, arith, rules}
use Rattle.ipa_transform.specs.Versioned.{first_component}
use Rattle.ipa_transform.specs.Members.{sums_from}
use Rattle.ipa_transform.proofs.Sums.{field_count-within, length-sums_from, sums_from-at, first_component-past}
use Rattle.ipa_transform.proofs.layout.Layout.first.Goals as goal

pub index-requires : goal.index-requires
index-requires c =
    let variables = c.self.inside.member.now.variables in
    let inside : c.args.variable < length variables = search rules in
    omega (arith, inside, ap length c.self.invariant.1, length-sums_from 0 variables, c.self.inside.sums.ok)

pub index-requires-else-place-count : goal.index-requires-else-place-count
index-requires-else-place-count c =
    let variables = c.self.inside.member.now.variables in
    let count : c.len-count.result ≤ length variables = search rules in
    omega (arith, count, ap length c.self.invariant.1, length-sums_from 0 variables, c.self.inside.sums.ok)

pub returns-then-place-count-clause-value : goal.returns-then-place-count-clause-value
returns-then-place-count-clause-value c =
    let variables = c.self.inside.member.now.variables in
    let inside : c.args.variable < length variables = search rules in
    let sum : get_or (sums_from 0 variables) c.args.variable c.index.result.now ≡ first_component variables c.args.variable =
    omega (arith, sums_from-at 0 variables c.args.variable c.index.result.now (omega (arith, inside))) in
    c.index.ensures ∙ ap (λ t. get_or t c.args.variable c.index.result.now) c.self.invariant.1 ∙ sum
    ∙ ap (λ m. first_component m.variables c.args.variable) c.self.view_is

pub returns-then-place-count-clause-small : goal.returns-then-place-count-clause-small
returns-then-place-count-clause-small c =
    let variables = c.self.inside.member.now.variables in
    omega (arith, field_count-within variables c.args.variable, c.self.invariant.0.components, ap (λ m. first_component m.variables c.args.variable) c.self.view_is)

pub returns-else-place-count-clause-value : goal.returns-else-place-count-clause-value
returns-else-place-count-clause-value c =
    let variables = c.self.inside.member.now.variables in
    let past : length variables ≤ c.args.variable = search rules in
    let count : c.len-count.result ≡ length variables = search rules in
    let sum : get_or (sums_from 0 variables) (length variables) c.index-else-place-count.result.now ≡ first_component variables (length variables) =
    omega (arith, sums_from-at 0 variables (length variables) c.index-else-place-count.result.now (omega arith)) in
    c.index-else-place-count.ensures ∙ ap (λ t. get_or t c.len-count.result c.index-else-place-count.result.now) c.self.invariant.1
    ∙ ap (λ k. get_or (sums_from 0 variables) k c.index-else-place-count.result.now) count ∙ sum ∙ sym (first_component-past variables c.args.variable past)
    ∙ ap (λ m. first_component m.variables c.args.variable) c.self.view_is

pub returns-else-place-count-clause-small : goal.returns-else-place-count-clause-small
returns-else-place-count-clause-small c =
    let variables = c.self.inside.member.now.variables in
    omega (arith, field_count-within variables c.args.variable, c.self.invariant.0.components, ap (λ m. first_component m.variables c.args.variable) c.self.view_is)
