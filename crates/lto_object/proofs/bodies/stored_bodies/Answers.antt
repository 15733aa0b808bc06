use Rattle.std.proofs.Common.{arith}
use Rattle.std.proofs.lemmas.Result.{err_from_is_err_and}
use Rattle.module_stream.specs.Readers.{in_turn}
use Rattle.module_stream.proofs.TurnLaws.{turn_goes_on, turn_ends, turns_done}
use Rattle.lto_object.specs.BodyStream.{stored_body_at}
use Rattle.lto_object.proofs.bodies.stored_bodies.Goals as goal

pub returns-in_err-body : goal.returns-in_err-body
returns-in_err-body c =
    let p = err_from_is_err_and c.from_residual.result c.from_residual.ensures.1 in
    rw (p.1, p.2) (turn_ends stored_body_at c.in_err-body.field-0.0 c.loop-own.bodies.items c.args.bounds.now c.loop-own.own-index c.own-item.result c.loop-own.cursor (in_turn stored_body_at c.args.bounds.now c.args.cursor.now) (omega arith) c.own-item.is c.in_err-body.ensures c.loop-own.invariant)

pub loop-own-preserved : goal.loop-own-preserved
loop-own-preserved c =
    rw c.in_ok-push.ensures.items (turn_goes_on stored_body_at c.loop-own.bodies.items c.args.bounds.now c.loop-own.own-index c.own-item.result c.loop-own.cursor c.stored_body.new.cursor c.in_ok-body.body (in_turn stored_body_at c.args.bounds.now c.args.cursor.now) (omega arith) c.own-item.is c.in_ok-body.ensures c.loop-own.invariant)

pub returns : goal.returns
returns c = turns_done stored_body_at c.loop-own.bodies.items c.args.bounds.now c.loop-own.own-index c.loop-own.cursor (in_turn stored_body_at c.args.bounds.now c.args.cursor.now) (omega arith) c.loop-own.invariant
