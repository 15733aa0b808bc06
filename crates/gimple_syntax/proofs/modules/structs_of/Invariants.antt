use Rattle.std.proofs.Common.{◌≡◌, map, take}
use Rattle.gimple_syntax.specs.Items.{struct_of, structs_in}
use Rattle.gimple_syntax.proofs.modules.structs_of.Given as goal

abbrev pub invariant-loop-item : goal.invariant-loop-item
invariant-loop-item l = l.found ≡ map struct_of (structs_in (take l.item-index l.items))
