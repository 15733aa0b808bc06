-- Entries of tables: words, symbols and relocations (System V ABI, chapter 4, "Symbol Table" and "Relocation"), how each is spelled
-- and what is read where it stands.
use Rattle.std.specs.Prelude.{ℕ, zero, suc, ◌+◌, ◌-◌, ◌%◌, ◌^◌, List, [], ◌∷◌, ◌++◌, drop, slice_index}
use Rattle.std.specs.Int.{w16, w32, w64}
use Rattle.cursors.specs.Fixed.{le16, le32, le64}
use Rattle.elf_container.specs.declared.entries.Sym.{Sym}
use Rattle.elf_container.specs.declared.relocatable.Reloc.{Reloc}
use Rattle.elf_container.specs.Reading.{number}

-- n entries of a size, one behind the other
abbrev pub entries : {A : Type 0} → ℕ → (List ℕ → A) → ℕ → List ℕ → List A
entries size read zero bytes = []
entries size read (suc n) bytes = read bytes ∷ entries size read n (drop size bytes)

abbrev pub word_in : List ℕ → ℕ
word_in bytes = number w32 0 bytes

-- a symbol: name, info, other, shndx, value, size
unfoldable pub sym_bytes : Sym → List ℕ
sym_bytes s = le32 s.name ++ (s.info ∷ (0 ∷ (le16 s.section ++ (le64 s.value ++ le64 s.size))))

unfoldable pub sym_in : List ℕ → Sym
sym_in bytes = record { name = number w32 0 bytes; info = slice_index bytes 4; section = number w16 6 bytes; value = number w64 8 bytes; size = number w64 16 bytes }

-- A relocation: offset, type, symbol, addend. Symbol numbers of 32 bits count the zero symbol.
unfoldable pub reloc_bytes : Reloc → List ℕ
reloc_bytes r = le64 r.offset ++ (le32 r.kind ++ (le32 ((r.symbol + 1) % 2 ^ 32) ++ le64 0))

unfoldable pub reloc_in : List ℕ → Reloc
reloc_in bytes = record { offset = number w64 0 bytes; kind = number w32 8 bytes; symbol = number w32 12 bytes - 1 }
