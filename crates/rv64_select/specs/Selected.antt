-- The code of a function in an object: its words, in which the fields that symbols fill are 0; its relocations by ascending offsets,
-- each with the place of its symbol's name; and the names, each once, in the order of their first relocation (RISC-V ELF psABI,
-- "Relocations").
use Rattle.std.specs.Prelude.{ℕ, List, [], ◌∷◌, ◌++◌, map, fold, if◌then◌else◌}
use Rattle.std.specs.Str.{bytes_eq}
use Rattle.std.specs.List.{position_or_len}
use Rattle.elf_container.specs.declared.format.TheConstants.{R_RISCV_CALL_PLT, R_RISCV_HI20, R_RISCV_LO12_I, R_RISCV_LO12_S}
use Rattle.elf_container.specs.declared.relocatable.Reloc.{Reloc}
use Rattle.gimple_ir.specs.Names.{is_among}
use Rattle.gimple_ir.specs.declared.versioned.VersionedFunction.{VersionedFunction}
use Rattle.rv64_isa.specs.Words.{word_of}
use Rattle.rv64_select.specs.declared.item.Item.{Item}
use Rattle.rv64_select.specs.declared.item.Item.TheVariants as item
use Rattle.rv64_select.specs.declared.references.Reference.{Reference}
use Rattle.rv64_select.specs.Assembly.{assembly_of}
use Rattle.rv64_select.specs.Code.{laid, unfilled, symbol_name}

unfoldable pub words_of_code : VersionedFunction → List ℕ
words_of_code f = map word_of (unfilled (assembly_of f))

-- ---- references

-- what an item at an offset names
abbrev pub reference_of : ℕ → Item → List Reference
reference_of at (item.Call s) = record { offset = at; kind = R_RISCV_CALL_PLT; symbol = s } ∷ []
reference_of at (item.Upper rd s) = record { offset = at; kind = R_RISCV_HI20; symbol = s } ∷ []
reference_of at (item.Load element rd rs1 s) = record { offset = at; kind = R_RISCV_LO12_I; symbol = s } ∷ []
reference_of at (item.Store element rs1 rs2 s) = record { offset = at; kind = R_RISCV_LO12_S; symbol = s } ∷ []
reference_of at _ = []

abbrev pub references : List Item → List Reference
references items = laid reference_of 0 items

-- ---- names and relocations

-- a name behind the others, unless it stands there
abbrev pub with_name : List (List ℕ) → List ℕ → List (List ℕ)
with_name names name = if is_among names name then names else names ++ name ∷ []

-- the names after those of one more reference
abbrev pub with_reference : VersionedFunction → List (List ℕ) → Reference → List (List ℕ)
with_reference f names r = with_name names (symbol_name f r.symbol)

abbrev pub names_of : VersionedFunction → List Reference → List (List ℕ)
names_of f refs = fold (with_reference f) [] refs

-- where a name stands
abbrev pub place_of : List (List ℕ) → List ℕ → ℕ
place_of names name = position_or_len (bytes_eq name) names

abbrev pub relocation_of : VersionedFunction → List (List ℕ) → Reference → Reloc
relocation_of f names r = record { offset = r.offset; kind = r.kind; symbol = place_of names (symbol_name f r.symbol) }

unfoldable pub names_of_code : VersionedFunction → List (List ℕ)
names_of_code f = names_of f (references (assembly_of f))

unfoldable pub relocations_of_code : VersionedFunction → List Reloc
relocations_of_code f = map (relocation_of f (names_of_code f)) (references (assembly_of f))
