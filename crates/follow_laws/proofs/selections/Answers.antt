use Rattle.follow_laws.proofs.SelectionLaws.{steps_stand, operand_sets, operand_encodes}
use Rattle.follow_laws.proofs.selections.Goals as goal

pub returns : goal.returns
returns c = record { steps = steps_stand; operand = operand_sets; operand_encodes = operand_encodes }
