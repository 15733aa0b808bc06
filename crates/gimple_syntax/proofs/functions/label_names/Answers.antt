use Rattle.std.proofs.Common.{arith}
use Rattle.std.proofs.lemmas.Grind.{common_steps}
use Rattle.std.proofs.lemmas.List.Elements.{filter_map-append}
use Rattle.gimple_syntax.proofs.functions.label_names.Goals as goal
use Rattle.gimple_syntax.proofs.functions.label_names.Goals.{in-Some+in_ok-push, in_default}

pub loop-line-preserved : goal.loop-line-preserved
loop-line-preserved c = elim c.match-label_name.branch [
  | in-Some+in_ok-push w ↦ grind (arith, common_steps, filter_map-append)
  | in_default w ↦ grind (arith, common_steps, filter_map-append)
]
