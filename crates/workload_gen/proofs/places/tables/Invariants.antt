use Rattle.std.proofs.Common.{◌≡◌, ◌-◌}
use Rattle.workload_gen.specs.Modules.{declared_below}
use Rattle.workload_gen.proofs.Declaring.{counts_of}
use Rattle.workload_gen.proofs.places.tables.Given as goal

abbrev pub invariant-loop-number : goal.invariant-loop-number
invariant-loop-number l =
    (l.declared.items ≡ declared_below l.own l.module_number l.number)
    × (l.before.items ≡ counts_of l.own l.module_number l.end (l.number - l.end))
