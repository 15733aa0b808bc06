use Rattle.whopr_top.proofs.ObjectImages.{alone}
use Rattle.std.proofs.Common.{arith}
use Rattle.std.proofs.lemmas.Grind.{common_steps}
use Rattle.whopr_top.proofs.compiling.image_by_object.Goals as goal

pub returns : goal.returns
returns c =
    alone c.in-Ok.object c.args.source.now _ _ c.args.name.now _
    (c.in-Ok.ensures.found.0) (grind (arith, common_steps, c.in-Ok.ensures.found)) (grind (arith, common_steps)) (grind (arith, common_steps)) c.linked.ensures
