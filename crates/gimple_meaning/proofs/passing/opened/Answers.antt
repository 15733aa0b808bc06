use Rattle.std.proofs.Common.{◌≡◌, ◌∙◌, ap, ap₂, ◌++◌, ◌-◌, None, length, take, replicate, vec_len, arith}
use Rattle.std.proofs.lemmas.Grind.{common_steps}
use Rattle.gimple_meaning.specs.Source.{taken}
use Rattle.gimple_meaning.proofs.Handing.{taken-is}
use Rattle.gimple_meaning.proofs.passing.opened.Goals as goal

pub returns : goal.returns
returns c =
    let parameters = c.parameter_components.result in
    let components = c.components.result in
    let values = c.args.values.items in
    let given : vec_len c.args.values ≡ length values = grind (arith, common_steps) in
    let first : c.resize.new.self.items ≡ taken 0 parameters values =
    c.in_ok-resize.ensures.items ∙ ap (λ k. take parameters values ++ replicate (parameters - k) None) given ∙ taken-is parameters values in
    let long : length c.resize.new.self.items ≡ parameters = grind (arith, common_steps) in
    c.from_vec.ensures ∙ c.in_ok-fill.ensures ∙ ap (λ k. c.resize.new.self.items ++ replicate (components - k) None) long
    ∙ ap (λ xs. xs ++ replicate (components - parameters) None) first
    ∙ ap₂ (λ p q. taken 0 p values ++ replicate (q - p) None) c.parameter_components.ensures c.components.ensures
