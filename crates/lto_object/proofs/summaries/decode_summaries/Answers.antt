use Rattle.std.proofs.Common.{length, ap, subst, ◌∙◌, arith}
use Rattle.module_stream.specs.Readers.{GivesAll}
use Rattle.module_stream.proofs.Inside.{is_within}
use Rattle.lto_object.specs.SummaryStream.{read_summaries}
use Rattle.lto_object.proofs.SummaryLaws.{summaries_found, summaries_again, summaries_faults}
use Rattle.lto_object.proofs.summaries.decode_summaries.Goals as goal

pub returns-clause-found : goal.returns-clause-found
returns-clause-found c =
    let call = c.declared_summaries in
    summaries_found c.args.declared.now c.requires c.args.bytes.now call.result (λ i. omega (arith, c.type_inv.bytes i)) call.ensures

pub returns-clause-only : goal.returns-clause-only
returns-clause-only c = λ summaries fits e.
    let m = c.args.declared.now in
    subst (λ f. GivesAll c.declared_summaries.result f) (ap (read_summaries m) e ∙ summaries_again m c.requires summaries fits) c.declared_summaries.ensures

pub returns-clause-within : goal.returns-clause-within
returns-clause-within c =
    let call = c.declared_summaries in
    is_within (length c.args.bytes.now) call.result (read_summaries c.args.declared.now c.args.bytes.now) (summaries_faults c.args.declared.now c.args.bytes.now) call.ensures
