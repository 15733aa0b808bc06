use Rattle.text_laws.proofs.Stated.{read_is_checked}
use Rattle.text_laws.proofs.checked.read_is_checked.Goals as goal

pub returns : goal.returns
returns c = record { checked = read_is_checked }
