use Rattle.std.proofs.Common.{◌≡◌, ◌≤◌, ◌+◌, take}
use Rattle.std.specs.Prelude.{IfSome, sum_by}
use Rattle.std.specs.List.{AllZip}
use Rattle.outer_files.specs.Outside.{RoseBy}
use Rattle.job_links.specs.Reads.{GivesFiles, IsSuited, failures, batch_of, batch_given}
use Rattle.job_links.proofs.reading.read_each.Given as goal

abbrev pub invariant-loop-job : goal.invariant-loop-job
invariant-loop-job g l = record {
  unchanged : g.F.FileStore.held l.files ≡ g.F.FileStore.held l.fn.files;
  never_falls : g.F.FileStore.faults l.fn.files ≤ g.F.FileStore.faults l.files;
  suited : AllZip (IsSuited l.limit) (take l.job-index l.jobs) l.readings;
  counted : RoseBy (sum_by failures l.readings) (g.F.FileStore.faults l.fn.files) (g.F.FileStore.faults l.files);
  gives : IfSome (g.F.FileStore.held l.fn.files) (λ held. AllZip (GivesFiles l.limit held) (take l.job-index l.jobs) l.readings);
  size : IfSome (g.F.FileStore.held l.fn.files) (λ held. l.total ≤ l.fn.total + batch_of l.limit held (take l.job-index l.jobs));
  least : IfSome (g.F.FileStore.held l.fn.files) (λ held. RoseBy (batch_given l.limit held (take l.job-index l.jobs) l.readings) l.fn.total l.total);
}
