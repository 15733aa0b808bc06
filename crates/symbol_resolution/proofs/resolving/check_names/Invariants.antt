use Rattle.std.proofs.Common.{◌≡◌, drop}
use Rattle.symbol_resolution.specs.Symbols.{symbols_in}
use Rattle.symbol_resolution.specs.Definitions.{kind_in}
use Rattle.symbol_resolution.specs.Resolving.{first_fault}
use Rattle.symbol_resolution.proofs.resolving.check_names.Given as goal

-- what is left has the fault of the whole
abbrev pub invariant-loop-symbol : goal.invariant-loop-symbol
invariant-loop-symbol l =
    first_fault (kind_in l.table.definitions) (symbols_in l.object l.symbol-index (drop l.symbol-index l.symbols)) ≡ first_fault (kind_in l.table.definitions) (symbols_in l.object 0 l.symbols)
