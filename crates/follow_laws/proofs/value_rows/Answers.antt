use Rattle.follow_laws.proofs.AllRows.{unary_row, convert_row, binary_row}
use Rattle.follow_laws.proofs.value_rows.Goals as goal

pub returns : goal.returns
returns c = record { unary = unary_row; convert = convert_row; binary = binary_row }
