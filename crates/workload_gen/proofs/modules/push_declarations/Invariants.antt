use Rattle.std.proofs.Common.{◌≡◌, ◌++◌, map, take}
use Rattle.workload_gen.specs.Functions.{declaration}
use Rattle.workload_gen.proofs.modules.push_declarations.Given as goal

abbrev pub invariant-loop-number : goal.invariant-loop-number
invariant-loop-number l = l.functions.items ≡ l.initial.functions.items ++ map declaration (take l.number-index l.numbers)
