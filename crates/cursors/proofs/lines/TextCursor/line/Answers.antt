use Rattle.cursors.proofs.LineLaws.{lines_at}
use Rattle.cursors.proofs.lines.TextCursor.line.Goals as goal

pub returns-clause-some : goal.returns-clause-some
returns-clause-some c = lines_at _ _ _ c.take_line.ensures
