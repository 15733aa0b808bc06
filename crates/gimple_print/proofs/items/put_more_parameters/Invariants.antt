use Rattle.std.proofs.Common.{◌≡◌, ◌++◌, take}
use Rattle.std.specs.Prelude.{codes}
use Rattle.std.specs.List.{flat_map}
use Rattle.gimple_print.specs.Places.{declaration_text}
use Rattle.gimple_print.proofs.items.put_more_parameters.Given as goal

abbrev pub invariant-loop-parameter : goal.invariant-loop-parameter
invariant-loop-parameter l = l.out.items ≡ l.initial.out.items ++ flat_map (λ v. codes ", " ++ declaration_text l.structs v) (take l.parameter-index l.parameters)
