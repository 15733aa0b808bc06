use Rattle.std.proofs.Common.{length, ap, subst, ◌∙◌, arith}
use Rattle.module_stream.specs.Readers.{GivesAll}
use Rattle.module_stream.specs.DeclarationReading.{read_decls}
use Rattle.module_stream.proofs.DeclarationLaws.{decls_found, decls_again}
use Rattle.module_stream.proofs.Inside.{is_within}
use Rattle.module_stream.proofs.FaultLaws.{decls_faults}
use Rattle.module_stream.proofs.declarations.decode_decls.Goals as goal

pub returns-clause-found : goal.returns-clause-found
returns-clause-found c = decls_found c.args.bytes.now c.declarations.result (λ i. omega (arith, c.type_inv.bytes i)) c.declarations.ensures

pub returns-clause-only : goal.returns-clause-only
returns-clause-only c = λ source fits e.
    subst (λ f. GivesAll c.declarations.result f) (ap read_decls e ∙ decls_again source fits) c.declarations.ensures

pub returns-clause-within : goal.returns-clause-within
returns-clause-within c = is_within (length c.args.bytes.now) c.declarations.result (read_decls c.args.bytes.now) (decls_faults c.args.bytes.now) c.declarations.ensures
