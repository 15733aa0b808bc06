use Rattle.std.proofs.Common.{◌≡◌, length, replicate, subst, sym, ap, ◌∙◌, arith}
use Rattle.std.proofs.lemmas.Grind.{common_steps}
use Rattle.equation_rounds.specs.Systems.{IsBelowEquations}
use Rattle.equation_rounds.specs.Rounds.{IsAboveAll}
use Rattle.equation_rounds.proofs.Order.{below_rounds}
use Rattle.equation_rounds.proofs.Rounds.{rounds_below}
use Rattle.equation_rounds.proofs.Progress.{begins, ends, within, turn_stays, turn_falls}
use Rattle.equation_rounds.proofs.solving.solve.Goals as goal
use Rattle.equation_rounds.proofs.solving.solve.Goals.{In-Some, In_default}

pub loop-unknown-init : goal.loop-unknown-init
loop-unknown-init g c =
    let e = g.S.System.equations c.args.system.now in
    let items : c.resize.new.self.items ≡ replicate e.unknowns e.top = grind (arith, common_steps, c.in_ok-resize.ensures.items, c.new-values.ensures.items, c.new-values.ensures.len, c.top.ensures, c.unknowns-count.ensures) in
    rw items (begins e (g.met.S.System.laws c.args.system.now) g.met.S.Value.Eq.laws (g.met.S.System.reads c.args.system.now) c.args.steps.now c.in_ok-waiting.waiting (rw c.unknowns-count.ensures at c.in_ok-waiting.ensures))

pub loop-unknown-smaller-then-ne : goal.loop-unknown-smaller-then-ne
loop-unknown-smaller-then-ne g c =
    let e = g.S.System.equations c.args.system.now in
    let bound = within e (g.met.S.System.laws c.args.system.now) g.met.S.Value.Eq.laws (g.met.S.System.reads c.args.system.now) _ _ _ _ c.loop-unknown.invariant in
    let len = ap length c.in-Some.ensures.some in
    omega (arith, bound, len, c.apply-found.ensures.tick)

pub loop-unknown-preserved-then-ne : goal.loop-unknown-preserved-then-ne
loop-unknown-preserved-then-ne g c =
    let e = g.S.System.equations c.args.system.now in
    rw c.apply-found.ensures.tick (turn_falls e (g.met.S.System.laws c.args.system.now) g.met.S.Value.Eq.laws (g.met.S.System.reads c.args.system.now)
    c.args.steps.now c.loop-unknown.values.items c.as_slice.result.now c.loop-unknown.waiting c.wake.new.waiting c.pop.new.self.items c.loop-unknown.steps
    c.in-Some.unknown c.index.result.now c.apply-found.result c.meet-lower.result c.ne.result
    c.in-Some.ensures.within c.loop-unknown.invariant c.in-Some.ensures.some (c.wake.ensures.room ∙ c.in-Some.ensures.room) c.index.ensures
    c.as_slice.ensures.value c.apply-found.ensures.value c.meet-lower.ensures c.ne.ensures c.if-ne.true
    c.wake.ensures.kept c.wake.ensures.readers c.wake.ensures.length)

pub loop-unknown-smaller : goal.loop-unknown-smaller
loop-unknown-smaller g c =
    let e = g.S.System.equations c.args.system.now in
    let bound = within e (g.met.S.System.laws c.args.system.now) g.met.S.Value.Eq.laws (g.met.S.System.reads c.args.system.now) _ _ _ _ c.loop-unknown.invariant in
    let len = ap length c.in-Some.ensures.some in
    omega (arith, bound, len, c.apply-found.ensures.tick)

pub loop-unknown-preserved : goal.loop-unknown-preserved
loop-unknown-preserved g c =
    let e = g.S.System.equations c.args.system.now in
    rw c.apply-found.ensures.tick (turn_stays e (g.met.S.System.laws c.args.system.now) g.met.S.Value.Eq.laws (g.met.S.System.reads c.args.system.now)
    c.args.steps.now c.loop-unknown.values.items c.as_slice.result.now c.loop-unknown.waiting c.pop.new.self c.loop-unknown.steps
    c.in-Some.unknown c.index.result.now c.apply-found.result c.meet-lower.result c.ne.result
    c.in-Some.ensures.within c.loop-unknown.invariant c.in-Some.ensures.some c.in-Some.ensures.room c.index.ensures
    c.as_slice.ensures.value c.apply-found.ensures.value c.meet-lower.ensures c.ne.ensures c.if-ne.false)

pub returns-clause-value : goal.returns-clause-value
returns-clause-value g c =
    let e = g.S.System.equations c.args.system.now in
    ends e (g.met.S.System.laws c.args.system.now) g.met.S.Value.Eq.laws (g.met.S.System.reads c.args.system.now) _ _ _ _ c.loop-unknown.invariant c.in_default.ensures.none

pub returns-clause-greatest : goal.returns-clause-greatest
returns-clause-greatest g c =
    let e = g.S.System.equations c.args.system.now in
    let laws = g.met.S.System.laws c.args.system.now in
    let is = ends e laws g.met.S.Value.Eq.laws (g.met.S.System.reads c.args.system.now) _ _ _ _ c.loop-unknown.invariant c.in_default.ensures.none in
    subst (IsAboveAll e) (sym is) (below_rounds e laws)

pub returns-clause-ticks : goal.returns-clause-ticks
returns-clause-ticks g c =
    let e = g.S.System.equations c.args.system.now in
    let bound = within e (g.met.S.System.laws c.args.system.now) g.met.S.Value.Eq.laws (g.met.S.System.reads c.args.system.now) _ _ _ _ c.loop-unknown.invariant in
    omega (arith, bound)

pub returns-clause-assignment : goal.returns-clause-assignment
returns-clause-assignment g c = c.loop-unknown.invariant.assigned

pub returns-clause-solution : goal.returns-clause-solution
returns-clause-solution g c =
    let e = g.S.System.equations c.args.system.now in
    let laws = g.met.S.System.laws c.args.system.now in
    let is = ends e laws g.met.S.Value.Eq.laws (g.met.S.System.reads c.args.system.now) _ _ _ _ c.loop-unknown.invariant c.in_default.ensures.none in
    subst (IsBelowEquations e) (sym is) (rounds_below e laws g.met.S.Value.Eq.laws)
