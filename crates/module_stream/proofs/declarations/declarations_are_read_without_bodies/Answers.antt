use Rattle.module_stream.proofs.BodyLaws.{decls_of-without_bodies, without_bodies-declared}
use Rattle.module_stream.proofs.declarations.declarations_are_read_without_bodies.Goals as goal

pub returns-clause-spelled : goal.returns-clause-spelled
returns-clause-spelled c = decls_of-without_bodies

pub returns-clause-well_formed : goal.returns-clause-well_formed
returns-clause-well_formed c = without_bodies-declared
