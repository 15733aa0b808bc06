use Rattle.version_laws.proofs.Running.{versions_keep}
use Rattle.version_laws.proofs.versions_keep.Goals as goal

pub returns : goal.returns
returns c = versions_keep
