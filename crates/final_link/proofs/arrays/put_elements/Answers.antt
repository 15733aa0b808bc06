use Rattle.std.proofs.Common.{arith}
use Rattle.std.proofs.lemmas.Grind.{common_steps}
use Rattle.final_link.proofs.arrays.put_elements.Goals as goal

pub loop-value-preserved : goal.loop-value-preserved
loop-value-preserved c = record {
  bytes = grind (arith, common_steps);
  len = omega (arith, c.in_ok-put_element.ensures.len, c.loop-value.invariant.len);
}
