use Rattle.std.proofs.Common.{◌≡◌}
use Rattle.rv64_meaning.specs.Machine.{after}
use Rattle.rv64_meaning.specs.Standings.{segments_of_machine, standing_of}
use Rattle.rv64_meaning.proofs.machine.Machine.run.Given as goal

abbrev pub invariant-loop-made : goal.invariant-loop-made
invariant-loop-made l = record {
  segments : segments_of_machine l.self ≡ segments_of_machine l.fn.self;
  stands : standing_of l.self l.out.items ≡ after (segments_of_machine l.fn.self) l._made (standing_of l.fn.self l.fn.out.items);
}
