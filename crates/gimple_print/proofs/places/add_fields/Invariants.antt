use Rattle.std.proofs.Common.{◌≡◌, ◌++◌, take, map}
use Rattle.gimple_print.specs.Places.{field_place}
use Rattle.gimple_print.proofs.places.add_fields.Given as goal

abbrev pub invariant-loop-field : goal.invariant-loop-field
invariant-loop-field l = l.places ≡ l.initial.places ++ map (field_place l.name) (take l.field-index l.fields)
