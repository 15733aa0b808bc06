use Rattle.std.proofs.Common.{arith}
use Rattle.whopr_top.specs.Reads.{contents_of}
use Rattle.whopr_top.proofs.JobPrograms.{not_objects, front_of}
use Rattle.whopr_top.proofs.interpreting.program_of_job.Goals as goal

pub returns-in-Err-Object-clause-exact : goal.returns-in-Err-Object-clause-exact
returns-in-Err-Object-clause-exact c =
    rw c.in-Err-Object.field-0-is (not_objects c.args.job.now (contents_of c.args.contents.now) _ c.in-Err-Object.number c.in-Err-Object.fault
    (grind (arith, c.is_within_batch.ensures, c.if-not-is_within_batch.false)) (front_of _ _ c.args.contents.now c.len-count.ensures)
    (rw c.in-Err-Object.field-0-is at c.in-Err-Object.ensures.exact))
