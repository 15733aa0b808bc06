use Rattle.std.proofs.Common.{◌∙◌, ap, ◌+◌, ◌*◌, ◌%◌}
use Rattle.std.proofs.Math.Nat.{mod-add-mod, mul_comm}
use Rattle.workload_gen.specs.Draws.{next}
use Rattle.workload_gen.proofs.draws.next_state.Goals as goal

pub returns : goal.returns
unfolding next
returns c =
    mod-add-mod (c.args.state * 6364136223846793005) 18446744073709551616 1442695040888963407
    ∙ ap (λ n. (n + 1442695040888963407) % 18446744073709551616) (mul_comm c.args.state 6364136223846793005)
