use Rattle.std.proofs.Common.{arith}
use Rattle.std.proofs.lemmas.Grind.{common_steps}
use Rattle.whopr_top.proofs.RunningJobs.{no_job, bad_line, only_is, only_stands, only_stops}
use Rattle.whopr_top.proofs.interpreting.run_only_job.Goals as goal

pub returns-in-Err-Fault-clause-refused : goal.returns-in-Err-Fault-clause-refused
returns-in-Err-Fault-clause-refused g c =
    rw c.in-Err-Fault.field-0-is (λ output. no_job _ _ c.args.jobs.now c.args.input.now output c.in-Ok.text.items c.args.steps 10 _ c.in-Ok.ensures.bytes
    (grind (arith, common_steps, c.in-Ok.ensures.within))
    (bad_line c.in-Ok.text.items c.in-Err-Fault.line _ c.in-Err-Fault.field-0-is (rw c.deref.ensures.value at c.in-Err-Fault.ensures)))

pub returns-in_default-clause-refused : goal.returns-in_default-clause-refused
returns-in_default-clause-refused g c =
    λ output. no_job _ _ c.args.jobs.now c.args.input.now output c.in-Ok.text.items c.args.steps 10 _ c.in-Ok.ensures.bytes
    (grind (arith, common_steps, c.in-Ok.ensures.within))
    (only_is c.in-Ok.text.items c.in-Ok-read_jobs.spelled _ (rw c.deref.ensures.value at c.in-Ok-read_jobs.ensures) c.in_default.ensures)

pub returns-clause-stands : goal.returns-clause-stands
returns-clause-stands g c =
    only_stands _ _ _ c.args.jobs.now c.args.input.now c.in-Ok.text.items c.args.steps c.in-Some.job.now c.run_job.result c.in-Ok.ensures.unchanged c.in-Ok.ensures.bytes
    (grind (arith, common_steps, c.in-Ok.ensures.within))
    (only_is c.in-Ok.text.items c.in-Ok-read_jobs.spelled _ (rw c.deref.ensures.value at c.in-Ok-read_jobs.ensures) c.in-Some.ensures) c.run_job.ensures.stands

pub returns-clause-refused : goal.returns-clause-refused
returns-clause-refused g c =
    only_stops _ _ _ c.args.jobs.now c.args.input.now c.in-Ok.text.items c.args.steps c.in-Some.job.now _ _ _ c.run_job.result c.in-Ok.ensures.unchanged c.in-Ok.ensures.never_falls
    c.in-Ok.ensures.bytes (grind (arith, common_steps, c.in-Ok.ensures.within))
    (only_is c.in-Ok.text.items c.in-Ok-read_jobs.spelled _ (rw c.deref.ensures.value at c.in-Ok-read_jobs.ensures) c.in-Some.ensures) c.run_job.ensures.refused
