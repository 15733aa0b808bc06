-- The stream of symbols: their count, and of each whether it is an array or a function, its linkage and its name.
use Rattle.std.specs.Prelude.{ℕ, List, ◌∷◌, map, Result}
use Rattle.cursors.specs.Cursor.{Cursor, offset_of}
use Rattle.gimple_ir.specs.Names.{IsName}
use Rattle.module_stream.specs.Codes.{linkage_table, linkage_code, flag_table, flag_code}
use Rattle.module_stream.specs.Fields.{counted_of, FitsAll, text_of}
use Rattle.module_stream.specs.Readers.{◌>>=◌, coded, known, text, made, both, counted, whole}
use Rattle.elf_container.specs.Reading.{named}
use Rattle.lto_object.specs.declared.symbol.Symbol.{Symbol}
use Rattle.lto_object.specs.declared.symbols.StoredSymbol.{StoredSymbol}

-- ---- the spelling

-- what the stream has of a symbol: its place follows from the others
abbrev pub stored_of : Symbol → StoredSymbol
stored_of s = record { name = s.name; function = s.function; linkage = s.linkage }

abbrev pub symbol_bytes : StoredSymbol → List ℕ
symbol_bytes s = flag_code s.function ∷ (linkage_code s.linkage ∷ text_of s.name)

abbrev pub symbols_bytes : List StoredSymbol → List ℕ
symbols_bytes symbols = counted_of symbol_bytes symbols

abbrev pub FitSymbols : List StoredSymbol → Type 0
FitSymbols symbols = FitsAll (λ s. IsName s.name) symbols

-- ---- reading

-- what a `Name` holds
unfoldable pub symbol_name_at : Cursor → Result (List ℕ × Cursor) ℕ
symbol_name_at c = text c >>= λ t. known (offset_of c) (named t.0) t.1

unfoldable pub symbol_at : Cursor → Result (StoredSymbol × Cursor) ℕ
symbol_at =
    made (λ x. record { name = x.1.1; function = x.0; linkage = x.1.0 })
    (both (coded flag_table) (both (coded linkage_table) symbol_name_at))

-- the symbols that all of the bytes spell, or the offset of the first byte of the first bad field
unfoldable pub read_symbols : List ℕ → Result (List StoredSymbol) ℕ
read_symbols bytes = whole (counted symbol_at) bytes
