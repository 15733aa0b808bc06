use Rattle.std.proofs.Common.{map, ap, ◌∙◌}
use Rattle.module_stream.specs.Bodies.{body_of}
use Rattle.lto_object.proofs.streams.joined.Goals as goal

pub returns-clause-lent : goal.returns-clause-lent
returns-clause-lent c = c.in_ok-slices.ensures ∙ ap (map body_of) c.as_slice.ensures.value
