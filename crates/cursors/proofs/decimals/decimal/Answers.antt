use Rattle.cursors.proofs.DecimalLaws.{decimal_value_is}
use Rattle.cursors.proofs.decimals.decimal.Goals as goal

pub returns-clause-exact : goal.returns-clause-exact
returns-clause-exact c = decimal_value_is _ _ c.parsed.ensures.found c.parsed.ensures.only
