use Rattle.std.proofs.Common.{◌≡◌, ◌+◌, ◌++◌, length, drop, min, arith, ◌∙◌, ap}
use Rattle.std.proofs.lemmas.Grind.{common_steps}
use Rattle.gimple_syntax.specs.Numbers.{nothing}
use Rattle.gimple_syntax.specs.Places.{types_of}
use Rattle.gimple_syntax.specs.Layouts.{firsts_from}
use Rattle.gimple_syntax.proofs.FirstComponents.{firsts-more}
use Rattle.gimple_syntax.proofs.scope.lay_out.Goals as goal

pub loop-variable-preserved : goal.loop-variable-preserved
loop-variable-preserved c =
    let structs = c.args.items.now.structs in
    let types = c.loop-variable.types.items in
    let i = c.loop-variable.variable-index in
    let len : c.len.result ≡ length types = omega arith in
    record {
      begun =
          ap (λ ts. c.push.new.self.items ++ firsts_from structs (length ts) (drop (i + 1) c.args.variables.now))
          (c.in_ok-add_types.ensures ∙ ap (λ d. types ++ types_of structs d.ty) (c.get.ensures ∙ c.variable-item.is))
          ∙ firsts-more structs c.args.variables.now i c.variable-item.result c.loop-variable.firsts.items c.push.new.self.items
          (firsts_from structs 0 c.args.variables.now) types c.capped.result (omega arith)
          (c.capped.ensures ∙ ap (λ n. min n nothing) len) c.in_ok-push.ensures.items c.loop-variable.invariant.begun;
      typed = grind (arith, common_steps);
    }
