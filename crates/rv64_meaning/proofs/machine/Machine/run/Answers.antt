use Rattle.std.proofs.Common.{◌≤◌, refl, sym, ap, ◌∙◌, arith}
use Rattle.std.proofs.lemmas.Result.{err_from_is_err_and}
use Rattle.rv64_meaning.specs.Machine.{next, outcome_of}
use Rattle.rv64_meaning.specs.View.{state_of}
use Rattle.rv64_meaning.specs.Standings.{segments_of_machine, standing_of}
use Rattle.rv64_meaning.proofs.StandingLaws.{after_one, over_after, outcome_stands}
use Rattle.rv64_meaning.proofs.machine.Machine.run.Goals as goal

pub loop-made-init : goal.loop-made-init
loop-made-init c = record { segments = refl; stands = refl }

pub returns-then-is_over-clause-stands : goal.returns-then-is_over-clause-stands
returns-then-is_over-clause-stands c =
    let m = c.loop-made.self in
    let made = c.loop-made._made in
    let within : made ≤ c.args.n = omega (arith, c.loop-made-test.true) in
    over_after (segments_of_machine c.args.self.now) made c.args.n (standing_of c.args.self.now c.args.out.now.items) m.state (state_of m.hart) c.loop-made.out.items
    within (sym c.is_over.ensures ∙ c.if-is_over.true) c.loop-made.invariant.stands

pub returns-then-is_over-clause-outcome : goal.returns-then-is_over-clause-outcome
returns-then-is_over-clause-outcome c =
    let m = c.loop-made.self in
    let made = c.loop-made._made in
    let within : made ≤ c.args.n = omega (arith, c.loop-made-test.true) in
    outcome_stands m.state (state_of m.hart) c.loop-made.out.items
    ∙ ap outcome_of (over_after (segments_of_machine c.args.self.now) made c.args.n (standing_of c.args.self.now c.args.out.now.items) m.state (state_of m.hart) c.loop-made.out.items
    within (sym c.is_over.ensures ∙ c.if-is_over.true) c.loop-made.invariant.stands)

pub loop-made-preserved : goal.loop-made-preserved
loop-made-preserved c =
    let before = segments_of_machine c.args.self.now in
    let start = standing_of c.args.self.now c.args.out.now.items in
    let inv = c.loop-made.invariant in
    record {
      segments = c.in_ok-advance.ensures.segments ∙ inv.segments;
      stands =
          c.in_ok-advance.ensures.made
          ∙ ap (λ m. next m (standing_of c.loop-made.self c.loop-made.out.items)) inv.segments
          ∙ ap (next before) inv.stands
          ∙ sym (after_one before c.loop-made._made start);
    }

pub returns-in_err-advance-clause-no_memory : goal.returns-in_err-advance-clause-no_memory
returns-in_err-advance-clause-no_memory c =
    let p = err_from_is_err_and c.from_residual.result c.from_residual.ensures.1 in
    rw p.1 (c.loop-made._made, c.loop-made-test.true, c.in_err-advance.ensures.refused ∙ c.loop-made.invariant.stands)
