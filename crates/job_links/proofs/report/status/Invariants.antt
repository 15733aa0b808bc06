use Rattle.std.proofs.Common.{◌≡◌, drop}
use Rattle.job_links.specs.Statuses.{first_status}
use Rattle.job_links.proofs.report.status.Given as goal

abbrev pub invariant-loop-line : goal.invariant-loop-line
invariant-loop-line l = first_status (drop l.line-index l.report.lines) ≡ first_status l.report.lines
