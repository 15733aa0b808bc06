use Rattle.std.proofs.Common.{◌∙◌, arith}
use Rattle.gimple_syntax.specs.Statements.{statements_from}
use Rattle.gimple_syntax.proofs.Bodies.{statements-more, statements-done}
use Rattle.gimple_syntax.proofs.functions.statements_of.Goals as goal

pub loop-line-preserved : goal.loop-line-preserved
loop-line-preserved c = record {
  few = omega arith;
  read =
      statements-more c.args.scope.now c.args.returned c.args.lines.now c.loop-line.line-index c.line-item.result c.loop-line.labels
      c.labels_in.result c.in_ok-statement_of.field-0 c.loop-line.found.items c.push.new.self.items
      (statements_from c.args.scope.now c.args.returned 0 c.args.lines.now) (omega arith) c.line-item.is c.in_ok-statement_of.ensures
      c.labels_in.ensures.value c.in_ok-push.ensures.items c.loop-line.invariant.read;
}

pub returns : goal.returns
returns c =
    c.from_vec.ensures ∙ statements-done c.args.scope.now c.args.returned c.args.lines.now c.loop-line.line-index c.loop-line.labels c.loop-line.found.items
    (statements_from c.args.scope.now c.args.returned 0 c.args.lines.now) (omega arith) c.loop-line.invariant.read
