use Rattle.std.proofs.Common.{[], take, arith}
use Rattle.std.proofs.lemmas.Grind.{common_steps}
use Rattle.gimple_ir.specs.CodeBound.{components_in}
use Rattle.func_summary.proofs.Keyed.{made_more}
use Rattle.func_summary.proofs.layout.firsts.Goals as goal

pub loop-variable-preserved : goal.loop-variable-preserved
loop-variable-preserved c = record {
  total = grind (arith, common_steps);
  firsts =
      made_more (λ v. components_in (take v c.args.variables.now)) [] c.loop-variable.firsts.items c.push.new.self.items c.loop-variable.variable-index
      c.loop-variable.total c.loop-variable.invariant.firsts c.in_ok-push.ensures.items c.loop-variable.invariant.total;
}
