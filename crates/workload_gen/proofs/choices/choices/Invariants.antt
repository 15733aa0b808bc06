use Rattle.std.proofs.Common.{◌≡◌}
use Rattle.workload_gen.specs.Choices.{start}
use Rattle.workload_gen.proofs.Numbers.{first_choices}
use Rattle.workload_gen.proofs.choices.choices.Given as goal

abbrev pub invariant-loop-number : goal.invariant-loop-number
invariant-loop-number l =
    (l.draws.state ≡ start l.fn.draws.state l.count l.number)
    × (l.choices.items ≡ first_choices l.fn.draws.state l.count l.number)
