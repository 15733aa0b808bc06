use Rattle.gimple_meaning.proofs.ShownLaws.{follows_on}
use Rattle.gimple_meaning.proofs.laws.following.Goals as goal

pub returns : goal.returns
returns c = follows_on
