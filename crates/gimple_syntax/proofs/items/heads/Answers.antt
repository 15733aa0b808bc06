use Rattle.std.proofs.Common.{arith}
use Rattle.std.proofs.lemmas.Grind.{common_steps}
use Rattle.std.proofs.lemmas.List.Elements.{filter_map-append}
use Rattle.gimple_syntax.proofs.items.heads.Goals as goal
use Rattle.gimple_syntax.proofs.items.heads.Goals.{in-Some+in_ok-push, in_default}

pub loop-item-preserved : goal.loop-item-preserved
loop-item-preserved g c = elim c.match-head.branch [
  | in-Some+in_ok-push w ↦ grind (arith, common_steps, filter_map-append)
  | in_default w ↦ grind (arith, common_steps, filter_map-append)
]
