use Rattle.gimple_checks.proofs.SeenNames.{holds-add}
use Rattle.gimple_checks.proofs.names.add.Goals as goal

pub returns-clause-added : goal.returns-clause-added
returns-clause-added c =
    holds-add c.args.name.now c.as_str.result.now c.args.seen.now c.insert.new.self c.as_str.ensures.value c.in_ok-old.ensures.updates
