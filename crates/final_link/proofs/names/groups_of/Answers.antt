use Rattle.std.proofs.Common.{arith}
use Rattle.std.proofs.lemmas.Grind.{text_groups}
use Rattle.final_link.proofs.names.groups_of.Goals as goal

pub loop-name-preserved : goal.loop-name-preserved
loop-name-preserved g c = grind (arith, text_groups)
