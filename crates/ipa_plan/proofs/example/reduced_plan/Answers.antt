use Rattle.ipa_plan.proofs.ExampleLaws.{example_planned}
use Rattle.ipa_plan.proofs.example.reduced_plan.Goals as goal

pub returns : goal.returns
returns c = example_planned
