use Rattle.follow_laws.proofs.AllRows.{cond_row, switch_row}
use Rattle.follow_laws.proofs.test_rows.Goals as goal

pub returns : goal.returns
returns c = record { condition = cond_row; switch = switch_row }
