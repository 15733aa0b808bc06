use Rattle.std.proofs.Common.{◌+◌, ◌-◌}
use Rattle.equation_rounds.specs.Systems.{most_ticks}
use Rattle.equation_rounds.proofs.Progress.{Progress}
use Rattle.equation_rounds.proofs.solving.solve.Given as goal

abbrev pub invariant-loop-unknown : goal.invariant-loop-unknown
invariant-loop-unknown g l = Progress (g.S.System.equations l.system) (g.S.System.readers_of l.system) l.fn.steps l.values.items l.waiting l.steps

abbrev pub decreases-loop-unknown : goal.decreases-loop-unknown
decreases-loop-unknown g l = l.fn.steps + most_ticks (g.S.System.equations l.system) (g.S.System.readers_of l.system) - l.steps
