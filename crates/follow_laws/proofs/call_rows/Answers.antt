use Rattle.follow_laws.proofs.AllRows.{call_row, return_row}
use Rattle.follow_laws.proofs.call_rows.Goals as goal

pub returns : goal.returns
returns c = record { call = call_row; give = return_row }
