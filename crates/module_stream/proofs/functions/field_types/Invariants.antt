use Rattle.std.proofs.Common.{◌≡◌, map, take}
use Rattle.module_stream.proofs.functions.field_types.Given as goal

abbrev pub invariant-loop-field : goal.invariant-loop-field
invariant-loop-field l = l.types ≡ map (λ field. field.ty) (take l.field-index l.field-items)
