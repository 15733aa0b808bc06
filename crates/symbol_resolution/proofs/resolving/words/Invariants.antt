use Rattle.std.proofs.Common.{◌≡◌, ◌++◌, drop, map}
use Rattle.symbol_resolution.specs.Symbols.{symbols_in}
use Rattle.symbol_resolution.specs.Definitions.{prevailing_in}
use Rattle.symbol_resolution.specs.Resolving.{resolved_by}
use Rattle.symbol_resolution.proofs.resolving.words.Given as goal

abbrev pub invariant-loop-place : goal.invariant-loop-place
invariant-loop-place l =
    l.words ++ map (resolved_by (prevailing_in l.table.definitions)) (symbols_in l.object l.place (drop l.place l.symbols)) ≡ map (resolved_by (prevailing_in l.table.definitions)) (symbols_in l.object 0 l.symbols)
