use Rattle.std.proofs.Common.{length, ap, subst, ◌∙◌, arith}
use Rattle.module_stream.specs.Readers.{GivesAll}
use Rattle.module_stream.specs.BodyReading.{read_body}
use Rattle.module_stream.proofs.OperandLaws.{AreCounts}
use Rattle.module_stream.proofs.StatementLaws.{body_found, body_again}
use Rattle.module_stream.proofs.Inside.{is_within}
use Rattle.module_stream.proofs.FaultLaws.{body_faults}
use Rattle.module_stream.proofs.body.decode_body.Goals as goal

pub returns-clause-found : goal.returns-clause-found
returns-clause-found c =
    let counts : AreCounts c.args.bounds.now = record { variables = omega arith; labels = omega arith; arrays = omega arith; functions = omega arith } in
    body_found c.args.bounds.now counts c.args.bytes.now c.body.result (λ i. omega (arith, c.type_inv.bytes i)) c.body.ensures

pub returns-clause-only : goal.returns-clause-only
returns-clause-only c = λ ss fits e.
    let counts : AreCounts c.args.bounds.now = record { variables = omega arith; labels = omega arith; arrays = omega arith; functions = omega arith } in
    subst (λ f. GivesAll c.body.result f) (ap (read_body c.args.bounds.now) e ∙ body_again c.args.bounds.now counts ss fits) c.body.ensures

pub returns-clause-within : goal.returns-clause-within
returns-clause-within c = is_within (length c.args.bytes.now) c.body.result (read_body c.args.bounds.now c.args.bytes.now) (body_faults c.args.bounds.now c.args.bytes.now) c.body.ensures
