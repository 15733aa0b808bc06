use Rattle.std.proofs.lemmas.Result.{err_from_is_err_and}
use Rattle.module_stream.specs.Readers.{repeated, after}
use Rattle.module_stream.proofs.Repeats.{starts, goes_on, ends, is_done}
use Rattle.module_stream.proofs.decode.repeated_after.Goals as goal

pub more-init : goal.more-init
more-init g c = starts (g.D.Decode.reads c.args.field.now) c.args.items c.args.count c.args.cursor.now

pub returns-in_err-item : goal.returns-in_err-item
returns-in_err-item g c =
    let read = g.D.Decode.reads c.args.field.now in
    let p = err_from_is_err_and c.from_residual.result c.from_residual.ensures.1 in
    rw (p.1, p.2) (ends read c.in_err-item.field-0.0 c.more.items c.args.count c.more.counter c.more.cursor (after c.args.items (repeated read c.args.count c.args.cursor.now)) c.more-test.true c.in_err-item.ensures c.more.invariant)

pub more-preserved : goal.more-preserved
more-preserved g c =
    let read = g.D.Decode.reads c.args.field.now in
    rw c.in_ok-push.ensures.ok (goes_on read c.more.items c.args.count c.more.counter c.more.cursor c.decode.new.cursor c.in_ok-item.item (after c.args.items (repeated read c.args.count c.args.cursor.now)) c.more-test.true c.in_ok-item.ensures c.more.invariant)

pub returns : goal.returns
returns g c =
    let read = g.D.Decode.reads c.args.field.now in
    is_done read c.more.items c.args.count c.more.counter c.more.cursor (after c.args.items (repeated read c.args.count c.args.cursor.now)) c.more-test.false c.more.invariant
