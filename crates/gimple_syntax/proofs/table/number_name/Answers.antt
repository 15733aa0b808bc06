use Rattle.std.proofs.Common.{◌∙◌, rules, Some}
use Rattle.std.proofs.lemmas.Map.Text.{hash_map_updates_str}
use Rattle.gimple_syntax.specs.Table.{number_in}
use Rattle.gimple_syntax.proofs.Tables.{number-added}
use Rattle.gimple_syntax.proofs.table.number_name.Goals as goal

pub returns-in_ok-insert : goal.returns-in_ok-insert
returns-in_ok-insert c = λ q.
    hash_map_updates_str c.args.name.now c.args.numbers.now c.insert.new.self (Some c.args.number) c.in_ok-insert.ensures.updates q
    ∙ number-added (number_in c.args.numbers.now) c.args.name.now q c.args.number (search rules)
