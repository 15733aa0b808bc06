use Rattle.module_stream.proofs.BodyLaws.{declared-stated}
use Rattle.module_stream.proofs.declarations.declarations_are_well_formed.Goals as goal

pub returns : goal.returns
returns c = declared-stated
