use Rattle.std.proofs.Common.{arith}
use Rattle.std.proofs.lemmas.Result.{err_from_is_err_and}
use Rattle.module_stream.specs.Readers.{in_turn}
use Rattle.module_stream.proofs.TurnLaws.{turn_goes_on, turn_ends, turns_done}
use Rattle.lto_object.specs.SummaryStream.{summary_at}
use Rattle.lto_object.proofs.summaries.in_order.Goals as goal

pub returns-in_err-summary : goal.returns-in_err-summary
returns-in_err-summary c =
    let p = err_from_is_err_and c.from_residual.result c.from_residual.ensures.1 in
    rw (p.1, p.2) (turn_ends summary_at c.in_err-summary.field-0.0 c.loop-own.summaries c.args.bounds.now c.loop-own.own-index c.own-item.result c.loop-own.cursor (in_turn summary_at c.args.bounds.now c.args.cursor.now) (omega arith) c.own-item.is c.in_err-summary.ensures c.loop-own.invariant)

pub loop-own-preserved : goal.loop-own-preserved
loop-own-preserved c =
    rw c.in_ok-push.ensures.ok (turn_goes_on summary_at c.loop-own.summaries c.args.bounds.now c.loop-own.own-index c.own-item.result c.loop-own.cursor c.summary.new.cursor c.in_ok-summary.summary (in_turn summary_at c.args.bounds.now c.args.cursor.now) (omega arith) c.own-item.is c.in_ok-summary.ensures c.loop-own.invariant)

pub returns : goal.returns
returns c = turns_done summary_at c.loop-own.summaries c.args.bounds.now c.loop-own.own-index c.loop-own.cursor (in_turn summary_at c.args.bounds.now c.args.cursor.now) (omega arith) c.loop-own.invariant
