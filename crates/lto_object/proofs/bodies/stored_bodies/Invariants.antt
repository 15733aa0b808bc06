use Rattle.std.proofs.Common.{drop}
use Rattle.module_stream.specs.Readers.{in_turn}
use Rattle.module_stream.proofs.TurnLaws.{TurnsSoFar}
use Rattle.lto_object.specs.BodyStream.{stored_body_at}
use Rattle.lto_object.proofs.bodies.stored_bodies.Given as goal

abbrev pub invariant-loop-own : goal.invariant-loop-own
invariant-loop-own l = TurnsSoFar stored_body_at l.bodies.items (drop l.own-index l.bounds) l.cursor (in_turn stored_body_at l.bounds l.fn.cursor)
