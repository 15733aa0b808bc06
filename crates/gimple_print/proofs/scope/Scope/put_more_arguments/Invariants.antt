use Rattle.std.proofs.Common.{◌≡◌, ◌++◌, take}
use Rattle.std.specs.Prelude.{codes}
use Rattle.std.specs.List.{flat_map}
use Rattle.gimple_print.specs.Statements.{argument_text}
use Rattle.gimple_print.proofs.scope.Scope.put_more_arguments.Given as goal

abbrev pub invariant-loop-argument : goal.invariant-loop-argument
invariant-loop-argument l = l.out.items ≡ l.initial.out.items ++ flat_map (λ a. codes ", " ++ argument_text l.self a) (take l.argument-index l.args)
