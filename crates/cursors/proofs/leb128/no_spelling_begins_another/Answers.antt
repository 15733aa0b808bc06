use Rattle.cursors.proofs.Fields.{same_spelling}
use Rattle.cursors.proofs.leb128.no_spelling_begins_another.Goals as goal

pub returns : goal.returns
returns c = same_spelling
