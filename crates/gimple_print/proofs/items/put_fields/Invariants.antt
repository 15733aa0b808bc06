use Rattle.std.proofs.Common.{◌≡◌, ◌++◌, take}
use Rattle.std.specs.List.{flat_map}
use Rattle.gimple_print.specs.Canonical.{field_text}
use Rattle.gimple_print.proofs.items.put_fields.Given as goal

abbrev pub invariant-loop-field : goal.invariant-loop-field
invariant-loop-field l = l.out.items ≡ l.initial.out.items ++ flat_map field_text (take l.field-index l.fields)
