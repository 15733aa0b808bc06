use Rattle.std.proofs.Common.{◌≡◌, map, take}
use Rattle.gimple_syntax.specs.Places.{variable_of}
use Rattle.gimple_syntax.proofs.functions.variables_of.Given as goal

abbrev pub invariant-loop-declared : goal.invariant-loop-declared
invariant-loop-declared l = l.found ≡ map (variable_of l.items.structs) (take l.declared-index l.all)
