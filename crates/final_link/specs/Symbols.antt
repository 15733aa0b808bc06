-- The final addresses of symbols: of the stubs, the versions and the arrays.
use Rattle.std.specs.Prelude.{ℕ, ◌+◌, List, [], ◌∷◌, ◌++◌, slice_get, codes}
use Rattle.std.specs.Option.{option_map_or}
use Rattle.elf_container.specs.declared.relocatable.RelSymbol.{RelSymbol}
use Rattle.gimple_ir.specs.declared.merged.Merged.{Merged}
use Rattle.gimple_ir.specs.declared.plan.Version.{Version}
use Rattle.final_link.specs.Stubs.{putchar_address, getchar_address, functions_address}
use Rattle.final_link.specs.Image.{round_up}
use Rattle.final_link.specs.Names.{value_of}
use Rattle.final_link.specs.declared.members.Member.{Member}
use Rattle.final_link.specs.Members.{version_size}
use Rattle.final_link.specs.Arrays.{size_of, array_symbol, stored_arrays, zeroed_arrays}

-- where items end that stand without gaps from a place on
abbrev pub end_of : {X : Type 0} → (X → ℕ) → ℕ → List X → ℕ
end_of size at [] = at
end_of size at (x ∷ xs) = end_of size (at + size x) xs

-- their names, each with its place
abbrev pub places_of : {X : Type 0} → (X → List ℕ) → (X → ℕ) → ℕ → List X → List (List ℕ × ℕ)
places_of name size at [] = []
places_of name size at (x ∷ xs) = (name x, at) ∷ places_of name size (at + size x) xs

abbrev pub stub_symbols : List (List ℕ × ℕ)
stub_symbols = (codes "__builtin_putchar", putchar_address) ∷ (codes "__builtin_getchar", getchar_address) ∷ []

-- the versions from 0x10064 on, in the plan's order
abbrev pub version_symbols : List (List ℕ × Member) → List Version → List (List ℕ × ℕ)
version_symbols members versions = places_of (λ v. v.symbol) (version_size members) functions_address versions

-- the text's end
abbrev pub code_end : List (List ℕ × Member) → List Version → ℕ
code_end members versions = end_of (version_size members) functions_address versions

abbrev pub arrays_in_order : Merged → List ℕ → List ℕ
arrays_in_order merged kept = stored_arrays merged kept ++ zeroed_arrays merged kept

-- the kept arrays, from the page behind the text on
abbrev pub array_symbols : Merged → List ℕ → ℕ → List (List ℕ × ℕ)
array_symbols merged kept text_end =
    places_of (array_symbol merged) (size_of merged) (round_up 4096 text_end) (arrays_in_order merged kept)

-- all symbols, each with its final address
unfoldable pub symbols_of : List (List ℕ × Member) → List Version → Merged → List ℕ → List (List ℕ × ℕ)
symbols_of members versions merged kept =
    stub_symbols ++ (version_symbols members versions ++ array_symbols merged kept (code_end members versions))

-- the address of the symbol that has this number in a part's list
abbrev pub address_in : List (List ℕ × ℕ) → List RelSymbol → ℕ → ℕ
address_in symbols of_part number = option_map_or (λ s. value_of 0 s.name symbols) (slice_get of_part number) 0
