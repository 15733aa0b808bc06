use Rattle.module_stream.proofs.Exact.{begins_none}
use Rattle.module_stream.proofs.DeclarationLaws.{decls_exact}
use Rattle.module_stream.proofs.declarations.no_declarations_begin_others.Goals as goal

pub returns : goal.returns
returns c = begins_none decls_exact
