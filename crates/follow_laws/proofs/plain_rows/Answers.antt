use Rattle.follow_laws.proofs.AllRows.{nop_row, label_row, goto_row, copies_row}
use Rattle.follow_laws.proofs.plain_rows.Goals as goal

pub returns : goal.returns
returns c = record { nop = nop_row; label = label_row; goto = goto_row; copies = copies_row }
