use Rattle.std.proofs.Common.{arith}
use Rattle.std.proofs.lemmas.Grind.{common_steps}
use Rattle.call_graph.proofs.Places.{one_marked, one_passed}
use Rattle.call_graph.proofs.marking.places.Goals as goal
use Rattle.call_graph.proofs.marking.places.Goals.{then-is_set+in_ok-push, else-is_set}

pub loop-place-preserved : goal.loop-place-preserved
loop-place-preserved c = elim c.if-is_set.branch [
  | then-is_set+in_ok-push w ↦ grind (arith, common_steps, one_marked c.args.flags.now c.loop-place.place)
  | else-is_set w ↦ grind (arith, common_steps, one_passed c.args.flags.now c.loop-place.place)
]
