use Rattle.std.proofs.Common.{take}
use Rattle.std.specs.Prelude.{All}
use Rattle.lto_object.specs.Objects.{IsObject}
use Rattle.plain_link.proofs.linking.all_are_objects.Given as goal

abbrev pub invariant-loop-object : goal.invariant-loop-object
invariant-loop-object l = All IsObject (take l.object-index l.objects)
