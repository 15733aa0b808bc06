use Rattle.std.proofs.Common.{◌≡◌}
use Rattle.gimple_meaning.specs.Run.{run}
use Rattle.gimple_meaning.specs.Source.{source_of}
use Rattle.gimple_meaning.proofs.interp.Interp.run.Given as goal

abbrev pub invariant-loop-made : goal.invariant-loop-made
invariant-loop-made l =
    (l.self.program ≡ l.initial.self.program) × (l.self.state ≡ run (source_of l.initial.self.program) l.initial.self.state l._made)
