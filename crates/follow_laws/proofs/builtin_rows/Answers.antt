use Rattle.follow_laws.proofs.AllRows.{putchar_row, getchar_row, exit_row}
use Rattle.follow_laws.proofs.builtin_rows.Goals as goal

pub returns : goal.returns
returns c = record { putchar = putchar_row; getchar = getchar_row; exit = exit_row }
