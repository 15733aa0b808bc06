use Rattle.std.proofs.Common.{◌^◌, ◌<◌, length, ap, ◌∙◌, arith}
use Rattle.module_stream.proofs.Inside.{is_seen_within}
use Rattle.lto_object.specs.BodyStream.{bodies_bytes, read_bodies}
use Rattle.lto_object.proofs.BodyLaws.{bodies_found, bodies_again, seen_as, bodies_faults}
use Rattle.lto_object.proofs.bodies.decode_bodies.Goals as goal

pub returns-clause-found : goal.returns-clause-found
returns-clause-found c =
    let call = c.declared_bodies in
    bodies_found _ c.args.declared.now c.requires c.args.bytes.now call.result (λ i. omega (arith, c.type_inv.bytes i)) call.ensures

pub returns-clause-only : goal.returns-clause-only
returns-clause-only c = λ bodies fits e.
    let m = c.args.declared.now in
    let few : length (bodies_bytes bodies) < 2 ^ 64 = omega (arith, ap length e) in
    seen_as _ c.declared_bodies.result _ _ (ap (read_bodies m) e ∙ bodies_again m c.requires bodies fits few) c.declared_bodies.ensures

pub returns-clause-within : goal.returns-clause-within
returns-clause-within c =
    let call = c.declared_bodies in
    is_seen_within _ (length c.args.bytes.now) call.result (read_bodies c.args.declared.now c.args.bytes.now) (bodies_faults c.args.declared.now c.args.bytes.now) call.ensures
