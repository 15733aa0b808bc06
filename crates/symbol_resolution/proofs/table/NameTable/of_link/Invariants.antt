use Rattle.std.proofs.Common.{◌≡◌, ℕ, List, fold, drop}
use Rattle.symbol_resolution.specs.Symbols.{symbols_from}
use Rattle.symbol_resolution.specs.Definitions.{kept, with_symbol, no_definitions}
use Rattle.symbol_resolution.proofs.table.NameTable.of_link.Given as goal

abbrev pub invariant-loop-object : goal.invariant-loop-object
invariant-loop-object l =
    (name : List ℕ) → fold (with_symbol name) (kept l.table.definitions name) (symbols_from l.object (drop l.object l.objects)) ≡ fold (with_symbol name) no_definitions (symbols_from 0 l.objects)
