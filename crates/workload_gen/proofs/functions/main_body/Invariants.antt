use Rattle.std.proofs.Common.{◌≡◌, ◌∷◌}
use Rattle.gimple_ir.specs.declared.types.Statement.TheVariants.{Copy}
use Rattle.workload_gen.specs.Draws.{after}
use Rattle.workload_gen.specs.Choices.{unsigned}
use Rattle.workload_gen.specs.Functions.{rounds}
use Rattle.workload_gen.specs.Modules.{place_in}
use Rattle.workload_gen.proofs.functions.main_body.Given as goal

abbrev pub invariant-loop-tenth : goal.invariant-loop-tenth
invariant-loop-tenth l =
    (l.draws.state ≡ after l.tenth l.fn.draws.state)
    × (l.body.items ≡ Copy 0 (unsigned 0) ∷ rounds (place_in l.places.choices.now 0) l.fn.draws.state l.tenth)
