-- The relocatable object of a unit: its spelling as a file of four sections, and what a value has to be to have one (System V ABI,
-- chapter 4; RISC-V ELF psABI, "Relocations"). Members are functions of section 1 without gaps; each other name is used by a
-- relocation, in the order of their numbers. The code parses a file's sections into a value, tests it, writes it and compares.
use Rattle.std.specs.Prelude.{◌≡◌, ℕ, ◌+◌, ◌-◌, ◌*◌, ◌/◌, ◌%◌, ◌^◌, ◌<◌, List, [], ◌∷◌, ◌++◌, length, map, Option, Some, None, is_some, Result, Ok, Err, Bool, true, false, not, ◌&&◌, ◌||◌, nat_le, nat_lt, ◌==◌, slice_get, codes, count_by, if◌then◌else◌}
use Rattle.std.specs.Option.{option_map_or}
use Rattle.std.specs.List.{flat_map, list_all, AllByRecursion}
use Rattle.cursors.specs.Fixed.{le32}
use Rattle.gimple_ir.specs.Names.{IsName, repeats}
use Rattle.elf_container.specs.declared.format.TheConstants.{SHT_PROGBITS, SHT_SYMTAB, SHT_STRTAB, SHT_RELA, SHF_ALLOC, SHF_EXECINSTR, STB_GLOBAL_STT_FUNC, STB_GLOBAL_STT_NOTYPE, R_RISCV_CALL_PLT, R_RISCV_HI20, R_RISCV_LO12_I, R_RISCV_LO12_S}
use Rattle.elf_container.specs.declared.fault.ElfFault.{ElfFault}
use Rattle.elf_container.specs.declared.sections.OwnSection.{OwnSection}
use Rattle.elf_container.specs.declared.entries.Sym.{Sym}
use Rattle.elf_container.specs.declared.relocatable.RelocObject.{RelocObject}
use Rattle.elf_container.specs.declared.relocatable.RelSymbol.{RelSymbol}
use Rattle.elf_container.specs.declared.relocatable.Reloc.{Reloc}
use Rattle.elf_container.specs.declared.relocatable.FormError.{FormError}
use Rattle.elf_container.specs.declared.relocatable.FormError.TheVariants as errors
use Rattle.elf_container.specs.Layout.{zeros, layout_of}
use Rattle.elf_container.specs.Entries.{sym_bytes, reloc_bytes}

-- ---- the spelling

-- the entry of a symbol whose name stands at an offset of `.strtab`
abbrev pub entry_by : ℕ → ℕ → Option ℕ → Sym
entry_by name size (Some start) = record { name = name % 2 ^ 32; info = STB_GLOBAL_STT_FUNC; section = 1; value = start; size = size }
entry_by name size None = record { name = name % 2 ^ 32; info = STB_GLOBAL_STT_NOTYPE; section = 0; value = 0; size = size }

-- the entries of symbols whose names stand from an offset on
abbrev pub entries_from : ℕ → List RelSymbol → List Sym
entries_from name [] = []
entries_from name (s ∷ ss) = entry_by name s.size s.start ∷ entries_from (name + length s.name + 1) ss

abbrev pub name_bytes : RelSymbol → List ℕ
name_bytes s = s.name ++ 0 ∷ []

abbrev pub text_section : RelocObject → OwnSection
text_section o = record { name = codes ".text"; kind = SHT_PROGBITS; flags = SHF_ALLOC + SHF_EXECINSTR; link = 0; info = 0; entry_size = 0; bytes = flat_map le32 o.words }

abbrev pub rela_section : RelocObject → OwnSection
rela_section o = record { name = codes ".rela.text"; kind = SHT_RELA; flags = 0; link = 3; info = 1; entry_size = 24; bytes = flat_map reloc_bytes o.relocations }

-- the zero symbol first
abbrev pub symtab_section : RelocObject → OwnSection
symtab_section o = record { name = codes ".symtab"; kind = SHT_SYMTAB; flags = 0; link = 4; info = 1; entry_size = 24; bytes = zeros 24 ++ flat_map sym_bytes (entries_from 1 o.symbols) }

abbrev pub strtab_section : RelocObject → OwnSection
strtab_section o = record { name = codes ".strtab"; kind = SHT_STRTAB; flags = 0; link = 0; info = 0; entry_size = 0; bytes = (0 ∷ []) ++ flat_map name_bytes o.symbols }

unfoldable pub sections_of : RelocObject → List OwnSection
sections_of o = text_section o ∷ (rela_section o ∷ (symtab_section o ∷ (strtab_section o ∷ [])))

-- the one spelling of an object
unfoldable pub object_bytes : RelocObject → List ℕ
object_bytes o = layout_of (sections_of o)

-- ---- the form

abbrev pub is_defined : RelSymbol → Bool
is_defined s = is_some s.start

-- a name that is not defined has no size
abbrev pub is_undefined : RelSymbol → Bool
is_undefined s = not (is_some s.start) && s.size == 0

abbrev pub stands : ℕ → Option ℕ → Bool
stands at None = false
stands at (Some start) = start == at

-- symbols from a place in the text on: members without gaps up to the end, and then names that are not defined
abbrev pub fill_from : ℕ → ℕ → List RelSymbol → Bool
fill_from at end [] = at == end
fill_from at end (s ∷ ss) =
    if is_some s.start
    then (if stands at s.start && s.size % 4 == 0 && nat_le s.size (end - at) then fill_from (at + s.size) end ss else false)
    else (if at == end then list_all is_undefined (s ∷ ss) else false)

abbrev pub opcode : ℕ → ℕ
opcode w = w % 2 ^ 7

abbrev pub funct3 : ℕ → ℕ
funct3 w = w / 2 ^ 12 % 2 ^ 3

-- the instructions that relocations fill, by opcode and funct3, with the filled field 0

abbrev pub is_auipc : ℕ → Bool
is_auipc w = opcode w == 0x17 && w / 2 ^ 12 == 0

abbrev pub is_jalr : ℕ → Bool
is_jalr w = opcode w == 0x67 && funct3 w == 0 && w / 2 ^ 20 == 0

abbrev pub is_lui : ℕ → Bool
is_lui w = opcode w == 0x37 && w / 2 ^ 12 == 0

-- lbu, lw or ld
abbrev pub is_load : ℕ → Bool
is_load w = opcode w == 0x03 && (funct3 w == 4 || funct3 w == 2 || funct3 w == 3) && w / 2 ^ 20 == 0

-- sb, sw or sd
abbrev pub is_store : ℕ → Bool
is_store w = opcode w == 0x23 && (funct3 w == 0 || funct3 w == 2 || funct3 w == 3) && w / 2 ^ 25 == 0 && w / 2 ^ 7 % 2 ^ 5 == 0

abbrev pub next_is_jalr : Option ℕ → Bool
next_is_jalr None = false
next_is_jalr (Some w) = is_jalr w

-- whether the word at a place, and for a call the next one too, is what a relocation of the kind fills
abbrev pub fills_by : ℕ → Option ℕ → Option ℕ → Bool
fills_by kind None next = false
fills_by kind (Some w) next =
    if kind == R_RISCV_CALL_PLT then is_auipc w && next_is_jalr next
    else (if kind == R_RISCV_HI20 then is_lui w
    else (if kind == R_RISCV_LO12_I then is_load w
    else kind == R_RISCV_LO12_S && is_store w))

unfoldable pub fills : ℕ → ℕ → List ℕ → Bool
fills kind place words = fills_by kind (slice_get words place) (slice_get words (place + 1))

-- how many bytes a relocation of a kind fills
abbrev pub reach : ℕ → ℕ
reach kind = if kind == R_RISCV_CALL_PLT then 8 else 4

-- relocations from an offset on, each behind the bytes that the one before it fills
abbrev pub relocs_from : ℕ → List ℕ → List Reloc → Bool
relocs_from least words [] = true
relocs_from least words (r ∷ rs) =
    if nat_le least r.offset && r.offset % 4 == 0 && fills r.kind (r.offset / 4) words then relocs_from (r.offset + reach r.kind) words rs else false

-- The first symbol that is not named yet, after a relocation that names a symbol below `next`, or the one at `next`; none after one
-- that names a later one.
abbrev pub after : ℕ → ℕ → Option ℕ
after next symbol = if nat_lt symbol next then Some next else (if symbol == next then Some (next + 1) else None)

-- The relocations from one on name symbols in the order of their numbers, and in the end all.
abbrev pub named_in_order : ℕ → ℕ → List Reloc → Bool
named_in_order next count [] = next == count
named_in_order next count (r ∷ rs) = option_map_or (λ later. named_in_order later count rs) (after next r.symbol) false

-- what a value has to be to have a spelling
pub record IsObject (o : RelocObject) : Type 0 where
  pub few : nat_lt (length o.symbols) (2 ^ 32) ≡ true
  pub differ : repeats (map (λ s. s.name) o.symbols) ≡ false
  pub members : fill_from 0 (4 * length o.words) o.symbols ≡ true
  pub relocations : relocs_from 0 o.words o.relocations ≡ true
  pub uses : named_in_order (count_by is_defined o.symbols) (length o.symbols) o.relocations ≡ true

-- ---- numbers in their range

abbrev pub StartFits : Option ℕ → Type 0
StartFits None = Unit {0}
StartFits (Some start) = start < 2 ^ 64

pub record SymbolFits (s : RelSymbol) : Type 0 where
  pub name : IsName s.name
  pub size : s.size < 2 ^ 64
  pub start : StartFits s.start

pub record RelocFits (r : Reloc) : Type 0 where
  pub offset : r.offset < 2 ^ 64
  pub kind : r.kind < 2 ^ 32
  pub symbol : r.symbol + 1 < 2 ^ 32

-- the numbers of an object fit their fields, and the offsets of its names 32 bits
pub record ObjectFits (o : RelocObject) : Type 0 where
  pub symbols : AllByRecursion SymbolFits o.symbols
  pub words : AllByRecursion (λ w. w < 2 ^ 32) o.words
  pub relocations : AllByRecursion RelocFits o.relocations
  pub strings : length (flat_map name_bytes o.symbols) < 2 ^ 32 - 1

-- ---- what a call answers

-- it is this object, or memory ran out
abbrev pub IsUnlessMemory : Result RelocObject FormError → RelocObject → Type 0
IsUnlessMemory (Ok found) o = found ≡ o
IsUnlessMemory (Err errors.NoMemory) o = Unit {0}
IsUnlessMemory (Err (errors.Bad offset)) o = ⊥

-- a refusal is at this offset
abbrev pub BadAt : Result RelocObject FormError → ℕ → Type 0
BadAt (Ok found) at = Unit {0}
BadAt (Err errors.NoMemory) at = Unit {0}
BadAt (Err (errors.Bad offset)) at = offset ≡ at

-- the offset of a file's fault, and else 0
abbrev pub offset_of_fault : Result (List OwnSection) ElfFault → ℕ
offset_of_fault (Ok ss) = 0
offset_of_fault (Err f) = f.offset
