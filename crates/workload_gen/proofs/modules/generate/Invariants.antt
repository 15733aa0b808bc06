use Rattle.std.proofs.Common.{◌≡◌}
use Rattle.workload_gen.proofs.Listing.{first_modules}
use Rattle.workload_gen.proofs.modules.generate.Given as goal

abbrev pub invariant-loop-number : goal.invariant-loop-number
invariant-loop-number l = l.modules.items ≡ first_modules l.choices.items l.draws.state l.number
