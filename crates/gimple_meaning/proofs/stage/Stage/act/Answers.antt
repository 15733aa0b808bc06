use Rattle.std.proofs.Common.{◌≡◌, ◌∙◌, ap, sym}
use Rattle.gimple_meaning.specs.Stages.{acted, planned_from, effect_from, machine_of}
use Rattle.gimple_meaning.specs.Systems.{store_of}
use Rattle.gimple_meaning.proofs.StageLaws.{plan-is}
use Rattle.gimple_meaning.proofs.stage.Stage.act.Goals as goal

pub returns-clause-ok : goal.returns-clause-ok
returns-clause-ok c =
    let s = c.args.self.now in
    let f = c.args.function.now in
    let statement = c.args.statement.now in
    let store = store_of (machine_of s) s.frame in
    let is : planned_from s f c.plan-planned.result ≡ effect_from s f statement =
    ap (planned_from s f) c.plan-planned.ensures.value ∙ ap (acted s) (sym (plan-is f s.frame.place store s.program.arrays statement c.requires.plain)) in
    rw (sym is) c.apply.ensures.ok
