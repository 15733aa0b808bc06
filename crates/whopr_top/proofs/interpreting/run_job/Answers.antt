use Rattle.std.proofs.Common.{Err, ap, arith}
use Rattle.std.proofs.lemmas.Grind.{common_steps}
use Rattle.whopr_top.specs.Reads.{contents_of}
use Rattle.whopr_top.proofs.RunningJobs.{file_failed, file_over, input_reached, input_over, run_comes, program_stops}
use Rattle.whopr_top.proofs.interpreting.run_job.Goals as goal

pub returns-in-Err-Failed-clause-refused : goal.returns-in-Err-Failed-clause-refused
returns-in-Err-Failed-clause-refused g c =
    λ output. file_failed _ _ c.args.input.now c.args.job.now c.in-Err-Failed.name _ _ _ c.in-Err-Failed.name-is
    (rw (c.in-Err-Failed.field-0-is, c.deref.ensures.value, c.in-Ok.ensures) at c.in-Err-Failed.ensures.refused)

pub returns-in-Err-TooLong-clause-refused : goal.returns-in-Err-TooLong-clause-refused
returns-in-Err-TooLong-clause-refused g c =
    λ output. file_over _ _ c.args.input.now c.args.job.now (rw (c.in-Err-TooLong.field-0-is, c.deref.ensures.value, c.in-Ok.ensures) at c.in-Err-TooLong.ensures.refused)

pub returns-in-Err-clause-refused : goal.returns-in-Err-clause-refused
returns-in-Err-clause-refused g c =
    λ output. program_stops _ _ c.args.input.now output c.args.steps c.args.job.now (contents_of c.in-Ok-read_files.contents.items) _ _ c.in-Err.refusal
    (rw (c.deref.ensures.value, c.in-Ok.ensures) at c.in-Ok-read_files.ensures.held) (rw c.deref-2.ensures.value at c.in-Err.ensures.exact)

pub returns-in-Err-Failed-read_all-clause-refused : goal.returns-in-Err-Failed-read_all-clause-refused
returns-in-Err-Failed-read_all-clause-refused g c =
    λ output. (
      omega (arith, c.in-Err-Failed-read_all.ensures.failed (ap Err c.in-Err-Failed-read_all.field-0-is), c.in-Ok-read_files.ensures.never_falls),
      input_reached _ _ c.args.input.now c.args.job.now (contents_of c.in-Ok-read_files.contents.items) c.in-Ok-program_of_job.program
          (rw (c.deref.ensures.value, c.in-Ok.ensures) at c.in-Ok-read_files.ensures.held) (rw c.deref-2.ensures.value at c.in-Ok-program_of_job.ensures.exact),
    )

pub returns-in-Err-TooLong-read_all-clause-refused : goal.returns-in-Err-TooLong-read_all-clause-refused
returns-in-Err-TooLong-read_all-clause-refused g c =
    λ output. input_over _ _ _ c.args.input.now c.args.job.now (contents_of c.in-Ok-read_files.contents.items) c.in-Ok-program_of_job.program c.in-Ok-read_files.ensures.unchanged
    (rw (c.deref.ensures.value, c.in-Ok.ensures) at c.in-Ok-read_files.ensures.held) (rw c.deref-2.ensures.value at c.in-Ok-program_of_job.ensures.exact)
    (c.in-Err-TooLong-read_all.ensures.too_long (ap Err c.in-Err-TooLong-read_all.field-0-is))

pub returns-in-Ok-run_program-clause-stands : goal.returns-in-Ok-run_program-clause-stands
returns-in-Ok-run_program-clause-stands g c =
    λ output. run_comes _ _ _ c.args.input.now output c.args.steps c.args.job.now (contents_of c.in-Ok-read_files.contents.items) c.in-Ok-program_of_job.program
    c.in-Ok-read_all.given.items _ _ c.in-Ok-read_files.ensures.unchanged
    (rw (c.deref.ensures.value, c.in-Ok.ensures) at c.in-Ok-read_files.ensures.held) (rw c.deref-2.ensures.value at c.in-Ok-program_of_job.ensures.exact)
    c.in-Ok-read_all.ensures.bytes (grind (arith, common_steps, c.in-Ok-read_all.ensures.within)) c.in-Ok-run_program.ensures.line c.in-Ok-run_program.ensures.output
