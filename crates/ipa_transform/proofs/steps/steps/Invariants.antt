use Rattle.std.proofs.Common.{◌≡◌, ◌≤◌, ◌++◌, drop}
use Rattle.ipa_transform.specs.Versioned.{steps_of}
use Rattle.ipa_transform.proofs.steps.steps.Given as goal

abbrev pub invariant-loop-statement : goal.invariant-loop-statement
invariant-loop-statement l = record {
  steps : l.steps.items ++ steps_of l.layout l.call (drop l.statement-index l.body) ≡ steps_of l.layout 0 l.body;
  calls : l.call ≤ l.statement-index;
}
