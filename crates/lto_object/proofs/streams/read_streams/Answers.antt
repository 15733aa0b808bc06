use Rattle.lto_object.proofs.ReadLaws.{streams_are}
use Rattle.lto_object.proofs.streams.read_streams.Goals as goal

pub returns-clause-found : goal.returns-clause-found
returns-clause-found c =
    streams_are c.args.view.now c.in_ok-declared.declared c.in_ok-bodies.bodies.items _ c.in_ok-declared.ensures.found.0 c.in_ok-declared.ensures.few c.in_ok-declared.ensures.found.1
    c.in_ok-bodies.ensures.found.0 c.in_ok-bodies.ensures.found.1 c.in_ok-summaries.ensures.found.0 c.in_ok-summaries.ensures.found.1 c.in_ok-symbols.ensures.found.1
    c.in_ok-source.ensures.source c.in_ok-source.ensures.lent
