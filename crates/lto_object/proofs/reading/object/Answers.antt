use Rattle.std.proofs.Common.{arith}
use Rattle.lto_object.proofs.ReadLaws.{object_found}
use Rattle.lto_object.proofs.reading.object.Goals as goal

pub returns-clause-found : goal.returns-clause-found
returns-clause-found c =
    object_found c.checked.result c.args.bytes.now c.in_ok-view.view c.in_ok-streams.streams c.in_ok-view.ensures.laid c.in_ok-view.ensures.form c.in_ok-streams.ensures.found
    c.checked.ensures.object c.checked.ensures.source c.checked.ensures.same
