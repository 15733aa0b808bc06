use Rattle.std.proofs.Common.{◌≡◌, map, take}
use Rattle.gimple_syntax.specs.Items.{field_of}
use Rattle.gimple_syntax.proofs.modules.fields_of.Given as goal

abbrev pub invariant-loop-field : goal.invariant-loop-field
invariant-loop-field l = l.found ≡ map field_of (take l.field-index l.fields)
