use Rattle.std.proofs.Common.{List, ℕ, ap₂, arith}
use Rattle.gimple_ir.specs.declared.types.ScalarType.{ScalarType}
use Rattle.gimple_ir.specs.declared.types.Variable.{Variable}
use Rattle.lto_object.proofs.LoopSteps.{copied_more}
use Rattle.lto_object.proofs.streams.variables.Goals as goal

pub loop-variable-preserved : goal.loop-variable-preserved
loop-variable-preserved c =
    let l = c.loop-variable in
    let v = c.variable-item.result in
    let made : List ℕ → List ScalarType → Variable = λ name types. record { name = name; ty = v.ty; types = types } in
    copied_more l.copied c.push.new.self c.args.variables.now l.variable-index v (made c.in_ok-copy.field-0 c.in_ok-copy-2.field-0) (omega arith) c.variable-item.is l.invariant c.in_ok-push.ensures.ok (ap₂ made c.in_ok-copy.ensures c.in_ok-copy-2.ensures)
