use Rattle.job_links.proofs.DistinctJobs.{jobs_distinct}
use Rattle.job_links.proofs.distinct.jobs_are_distinct.Goals as goal

pub returns : goal.returns
returns c = λ text jobs spelled. jobs_distinct text jobs spelled
