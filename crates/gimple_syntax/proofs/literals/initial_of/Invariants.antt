use Rattle.std.proofs.Common.{◌≡◌, map, take}
use Rattle.gimple_syntax.specs.Numbers.{element_of}
use Rattle.gimple_syntax.proofs.literals.initial_of.Given as goal

abbrev pub invariant-loop-literal : goal.invariant-loop-literal
invariant-loop-literal l = l.values.items ≡ map (element_of l.element) (take l.literal-index l.literals)
