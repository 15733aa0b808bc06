use Rattle.std.proofs.Common.{◌≡◌, drop}
use Rattle.symbol_resolution.specs.Symbols.{symbols_from}
use Rattle.symbol_resolution.specs.Definitions.{kind_in}
use Rattle.symbol_resolution.specs.Resolving.{first_fault}
use Rattle.symbol_resolution.proofs.resolving.check_link.Given as goal

abbrev pub invariant-loop-object : goal.invariant-loop-object
invariant-loop-object l = first_fault (kind_in l.table.definitions) (symbols_from l.object (drop l.object l.objects)) ≡ first_fault (kind_in l.table.definitions) (symbols_from 0 l.objects)
