use Rattle.std.proofs.Common.{◌≡◌, ◌++◌, take}
use Rattle.std.specs.List.{flat_map}
use Rattle.gimple_print.specs.Canonical.{struct_text}
use Rattle.gimple_print.proofs.canonical.put_structs.Given as goal

abbrev pub invariant-loop-def : goal.invariant-loop-def
invariant-loop-def l = l.out.items ≡ l.initial.out.items ++ flat_map struct_text (take l.def-index l.structs)
