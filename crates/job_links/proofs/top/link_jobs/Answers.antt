use Rattle.std.proofs.Common.{◌∙◌, Err, ap}
use Rattle.job_links.proofs.CompleteCommands.{complete}
use Rattle.job_links.proofs.Batches.{all_small}
use Rattle.job_links.proofs.top.link_jobs.Goals as goal

pub returns-clause-small : goal.returns-clause-small
returns-clause-small g c = all_small c.args.limit _ c.link_all.result c.link_all.ensures.count c.link_all.ensures.read

pub returns-clause-complete : goal.returns-clause-complete
returns-clause-complete g c =
    λ not_rose. complete c.args.limit c.args.jobs.now _ _ _ _ _ c.link_all.ensures.answered c.link_all.ensures.counted c.link_all.ensures.cause
    (λ refused is read. c.link_all.ensures.failed (is ∙ ap Err read)) c.link_all.ensures.never_falls not_rose
