use Rattle.std.proofs.Common.{◌≡◌, map}
use Rattle.std.specs.List.{range_with_len}
use Rattle.gimple_ir.specs.declared.lattice.Binding.TheVariants.{Arg}
use Rattle.ipa_plan.proofs.versions.bindings.Given as goal

abbrev pub invariant-loop-number : goal.invariant-loop-number
invariant-loop-number l = l.bindings.items ≡ map Arg (range_with_len 0 l.number)
