use Rattle.follow_laws.proofs.AllRows as laws
use Rattle.follow_laws.proofs.machine_follows.Goals as goal

pub returns : goal.returns
returns c = laws.machine_follows
