use Rattle.std.proofs.Common.{◌≡◌, ℕ, List, fold, drop}
use Rattle.symbol_resolution.specs.Symbols.{symbols_in}
use Rattle.symbol_resolution.specs.Definitions.{kept, with_symbol}
use Rattle.symbol_resolution.proofs.table.NameTable.note_all.Given as goal

-- what is kept and what is left come to what will be kept
abbrev pub invariant-loop-place : goal.invariant-loop-place
invariant-loop-place l =
    (name : List ℕ) → fold (with_symbol name) (kept l.self.definitions name) (symbols_in l.object l.place (drop l.place l.symbols)) ≡ fold (with_symbol name) (kept l.fn.self.definitions name) (symbols_in l.object 0 l.symbols)
