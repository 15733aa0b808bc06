use Rattle.follow_laws.proofs.AllRows.{load_row, store_row}
use Rattle.follow_laws.proofs.array_rows.Goals as goal

pub returns : goal.returns
returns c = record { load = load_row; store = store_row }
