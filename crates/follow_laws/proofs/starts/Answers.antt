use Rattle.follow_laws.proofs.StartLaws.{start_is_at_start}
use Rattle.follow_laws.proofs.starts.Goals as goal

pub returns : goal.returns
returns c = start_is_at_start
