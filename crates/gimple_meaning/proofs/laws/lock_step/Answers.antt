use Rattle.gimple_meaning.proofs.LockSteps.{runs_alike}
use Rattle.gimple_meaning.specs.LockStep.{renumbering}
use Rattle.gimple_meaning.proofs.laws.lock_step.Goals as goal

pub returns : goal.returns
returns c = λ a b function_of. runs_alike a b (renumbering function_of)
