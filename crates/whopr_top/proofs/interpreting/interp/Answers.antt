use Rattle.std.proofs.Common.{Err, ap, refl, arith}
use Rattle.whopr_words.specs.Commands.{Interp}
use Rattle.whopr_top.specs.declared.top.TheConstants.{FILE_BYTES}
use Rattle.whopr_top.proofs.RunningJobs.{stopped_attempt, stopped_counted, stopped_lined, stopped_judged, read_attempt, run_done, run_cut_short}
use Rattle.whopr_top.proofs.interpreting.interp.Goals as goal

pub returns-in-Err-clause-attempt : goal.returns-in-Err-clause-attempt
returns-in-Err-clause-attempt g c = stopped_attempt _ _ _ _ _ _ c.in-Err.refusal c.in-Err.ensures.unchanged (c.in-Err.ensures.refused c.args.out.now)

pub returns-in-Err-clause-counted : goal.returns-in-Err-clause-counted
returns-in-Err-clause-counted g c = stopped_counted FILE_BYTES (Interp c.args.jobs.now c.args.steps c.args.input.now c.args.out.now) _ _ _ c.in-Err.refusal c.in-Err.ensures.never_falls (c.in-Err.ensures.refused c.args.out.now)

pub returns-in-Err-clause-lined : goal.returns-in-Err-clause-lined
returns-in-Err-clause-lined g c = stopped_lined _ _ _ _ _ c.in-Err.refusal (c.in-Err.ensures.refused c.args.out.now)

pub returns-in-Err-clause-judged : goal.returns-in-Err-clause-judged
returns-in-Err-clause-judged g c = stopped_judged _ _ _ _ _ _ c.in-Err.refusal (c.in-Err.ensures.refused c.args.out.now)

pub returns-in-Ok-write_all-clause-attempt : goal.returns-in-Ok-write_all-clause-attempt
returns-in-Ok-write_all-clause-attempt g c =
    read_attempt _ _ _ _ _ c.args.out.now _ _ refl (λ is. grind (arith, is)) (λ is. grind (arith, is)) (λ is. grind (arith, is)) (c.in-Ok.ensures.stands c.args.out.now)

pub returns-in-Ok-write_all-clause-judged : goal.returns-in-Ok-write_all-clause-judged
returns-in-Ok-write_all-clause-judged g c =
    run_done _ _ _ _ _ _ _ c.args.out.now _ _ c.in-Ok.ensures.unchanged (c.in-Ok.ensures.stands c.args.out.now)
    (rw c.deref.ensures.value at c.in-Ok-write_all.ensures.written) (λ _ _. tt)

pub returns-in-Err-Failed-clause-attempt : goal.returns-in-Err-Failed-clause-attempt
returns-in-Err-Failed-clause-attempt g c =
    read_attempt _ _ _ _ _ c.args.out.now _ _ refl (λ is. grind (arith, is)) (λ is. grind (arith, is)) (λ is. grind (arith, is)) (c.in-Ok.ensures.stands c.args.out.now)

pub returns-in-Err-Failed-clause-judged : goal.returns-in-Err-Failed-clause-judged
returns-in-Err-Failed-clause-judged g c =
    run_cut_short _ _ _ _ _ _ _ c.args.out.now _ _ _ c.in-Ok.ensures.unchanged (c.in-Ok.ensures.stands c.args.out.now)
    (rw c.deref.ensures.value at c.in-Err-Failed.ensures.cut_short (ap Err c.in-Err-Failed.field-0-is))
    (omega (arith, c.in-Err-Failed.ensures.failed (ap Err c.in-Err-Failed.field-0-is), c.in-Ok.ensures.never_falls))
