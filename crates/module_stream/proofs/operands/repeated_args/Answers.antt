use Rattle.std.proofs.lemmas.Result.{err_from_is_err_and}
use Rattle.module_stream.specs.Readers.{repeated}
use Rattle.module_stream.specs.BodyReading.{arg_at}
use Rattle.module_stream.proofs.Repeats.{goes_on, ends, is_done}
use Rattle.module_stream.proofs.operands.repeated_args.Goals as goal

pub returns-in_err-arg : goal.returns-in_err-arg
returns-in_err-arg c =
    let p = err_from_is_err_and c.from_residual.result c.from_residual.ensures.1 in
    rw (p.1, p.2) (ends (arg_at c.args.bounds.now) c.in_err-arg.field-0.0 c.more.args c.args.count c.more.counter c.more.cursor (repeated (arg_at c.args.bounds.now) c.args.count c.args.cursor.now) c.more-test.true c.in_err-arg.ensures c.more.invariant)

pub more-preserved : goal.more-preserved
more-preserved c = rw c.in_ok-push.ensures.ok (goes_on (arg_at c.args.bounds.now) c.more.args c.args.count c.more.counter c.more.cursor c.arg.new.cursor c.in_ok-arg.arg (repeated (arg_at c.args.bounds.now) c.args.count c.args.cursor.now) c.more-test.true c.in_ok-arg.ensures c.more.invariant)

pub returns : goal.returns
returns c = is_done (arg_at c.args.bounds.now) c.more.args c.args.count c.more.counter c.more.cursor (repeated (arg_at c.args.bounds.now) c.args.count c.args.cursor.now) c.more-test.false c.more.invariant
