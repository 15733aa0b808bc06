use Rattle.std.proofs.Common.{◌≡◌, arith, ◌∙◌, ap, length, get_or}
use Rattle.gimple_syntax.specs.Places.{first_component}
use Rattle.gimple_syntax.proofs.FirstComponents.{length-firsts, first-of}
use Rattle.gimple_syntax.proofs.scope.Scope.first_component.Goals as goal

pub index-requires : goal.index-requires
index-requires c =
    let variables = c.self.inside.variables.items in
    let e : length c.self.inside.firsts.items ≡ length c.args.self.now.variables =
    ap length c.self.invariant.begun ∙ length-firsts c.self.inside.items.now.structs 0 variables
    ∙ ap (λ n. length n.variables) c.self.view_is in
    omega arith

pub returns : goal.returns
returns c =
    let variables = c.self.inside.variables.items in
    let e : length variables ≡ length c.args.self.now.variables = ap (λ n. length n.variables) c.self.view_is in
    c.index.ensures ∙ ap (λ firsts. get_or firsts c.args.variable c.index.result.now) c.self.invariant.begun
    ∙ first-of c.self.inside.items.now.structs variables c.args.variable c.index.result.now (omega arith)
    ∙ ap (λ n. first_component n c.args.variable) c.self.view_is
