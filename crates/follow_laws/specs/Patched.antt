-- The code of a function in an object, with each field filled that its relocations name, is its code at the address.
use Rattle.std.specs.Prelude.{◌≡◌, ℕ, true, List, length, map, Some, slice_get}
use Rattle.std.specs.Option.{option_map_or}
use Rattle.std.specs.List.{AllByRecursion}
use Rattle.gimple_ir.specs.Names.{is_among}
use Rattle.gimple_ir.specs.declared.versioned.VersionedFunction.{VersionedFunction}
use Rattle.rv64_isa.specs.Words.{word_of}
use Rattle.rv64_select.specs.Assembly.{assembly_of}
use Rattle.rv64_select.specs.Code.{symbol_name, code_of}
use Rattle.rv64_select.specs.Selected.{words_of_code, names_of_code, relocations_of_code, references, place_of, relocation_of}
use Rattle.final_link.specs.Filling.{filled}

-- each symbol that a function names has the address of its name, by the name's place among these
abbrev pub NamesHaveAddresses : VersionedFunction → List (List ℕ) → (ℕ → ℕ) → (List ℕ → ℕ) → Type 0
NamesHaveAddresses f names address_of addresses =
    AllByRecursion (λ r. address_of (place_of names (symbol_name f r.symbol)) ≡ addresses (symbol_name f r.symbol)) (references (assembly_of f))

abbrev pub PatchedIsDirect : Type 0
PatchedIsDirect =
    (f : VersionedFunction) (names : List (List ℕ)) (address_of : ℕ → ℕ) (addresses : List ℕ → ℕ) (at : ℕ) → NamesHaveAddresses f names address_of addresses
    → filled (map (relocation_of f names) (references (assembly_of f))) address_of at (words_of_code f) ≡ map word_of (code_of addresses f at)

-- by its own names, of which each has its address
abbrev pub OwnNamesPatched : Type 0
OwnNamesPatched =
    (f : VersionedFunction) (addresses : List ℕ → ℕ) (at : ℕ)
    → filled (relocations_of_code f) (λ k. option_map_or addresses (slice_get (names_of_code f) k) 0) at (words_of_code f) ≡ map word_of (code_of addresses f at)

-- it has as many words wherever it is
abbrev pub SameLength : Type 0
SameLength = (f : VersionedFunction) (addresses : List ℕ → ℕ) (at : ℕ) → length (words_of_code f) ≡ length (code_of addresses f at)

-- ---- names

-- each name that a function's references have is among its names
abbrev pub NamesStand : Type 0
NamesStand = (f : VersionedFunction) → AllByRecursion (λ r. is_among (names_of_code f) (symbol_name f r.symbol) ≡ true) (references (assembly_of f))

-- the name at the place of a name is that name
abbrev pub PlaceHasName : Type 0
PlaceHasName = (names : List (List ℕ)) (name : List ℕ) → is_among names name ≡ true → slice_get names (place_of names name) ≡ Some name
