use Rattle.gimple_meaning.proofs.KeepingLaws.{keeps_follows, keeps_on}
use Rattle.gimple_meaning.proofs.laws.keeping.Goals as goal

pub returns-clause-follows : goal.returns-clause-follows
returns-clause-follows c = keeps_follows

pub returns-clause-on : goal.returns-clause-on
returns-clause-on c = keeps_on
