use Rattle.std.proofs.Common.{◌≡◌, ◌++◌, map, take}
use Rattle.gimple_syntax.proofs.items.add_field_types.Given as goal

abbrev pub invariant-loop-field : goal.invariant-loop-field
invariant-loop-field l = l.types.items ≡ l.fn.types.items ++ map (λ field. field.ty) (take l.field-index l.fields)
