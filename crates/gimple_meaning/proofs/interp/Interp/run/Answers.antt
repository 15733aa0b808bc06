use Rattle.std.proofs.Common.{◌≡◌, ◌∙◌, ◌+◌, ◌-◌, refl, sym, ap, arith}
use Rattle.gimple_meaning.specs.Laws.{IsOver}
use Rattle.gimple_meaning.specs.Run.{run}
use Rattle.gimple_meaning.specs.Source.{source_of}
use Rattle.gimple_meaning.proofs.RunLaws.{run_over}
use Rattle.gimple_meaning.proofs.interp.Interp.run.Goals as goal

pub returns-then-is_over-clause-ok : goal.returns-then-is_over-clause-ok
returns-then-is_over-clause-ok c =
    let system = source_of c.args.self.now.program in
    let first = c.args.self.now.state in
    let made = c.loop-made._made in
    let test = c.loop-made-test.true in
    let split : made + (c.args.n - made) ≡ c.args.n = omega (arith, test) in
    let over : IsOver c.loop-made.self.state = c.if-is_over.ensures.0 refl in
    let is = c.loop-made.invariant.1 in
    is ∙ sym (run_over system first made (c.args.n - made) (rw (sym is) over)) ∙ ap (run system first) split
