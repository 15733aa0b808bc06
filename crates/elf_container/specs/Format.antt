-- The two headers of an ELF-64 file (System V ABI, chapter 4, "ELF Header" and "Sections"). Numbers have the low byte first.
-- The format's numbers are those of src/format.rt. The code writes the file's header last, when it knows where the table begins.
use Rattle.std.specs.Prelude.{ℕ, ◌-◌, List, [], ◌∷◌, ◌++◌}
use Rattle.cursors.specs.Fixed.{le16, le32, le64}
use Rattle.elf_container.specs.declared.format.TheConstants.{ELFMAG0, ELFMAG1, ELFMAG2, ELFMAG3, ELFCLASS64, ELFDATA2LSB, EV_CURRENT, ET_REL, EM_RISCV}
use Rattle.elf_container.specs.declared.sections.Fields.{Fields}

-- the file's identification: magic bytes, class, byte order, version, and nine zeros
abbrev pub identification : List ℕ
identification = ELFMAG0 ∷ ELFMAG1 ∷ ELFMAG2 ∷ ELFMAG3 ∷ ELFCLASS64 ∷ ELFDATA2LSB ∷ EV_CURRENT ∷ 0 ∷ 0 ∷ 0 ∷ 0 ∷ 0 ∷ 0 ∷ 0 ∷ 0 ∷ 0 ∷ []

-- The header of a file with shnum section headers from offset shoff on: type, machine, version; entry, phoff, shoff; flags;
-- ehsize, phentsize, phnum, shentsize, shnum, shstrndx.
unfoldable pub file_header : ℕ → ℕ → List ℕ
file_header shoff shnum =
    identification
    ++ (le16 ET_REL ++ (le16 EM_RISCV ++ (le32 EV_CURRENT
    ++ (le64 0 ++ (le64 0 ++ (le64 shoff ++ (le32 0
    ++ (le16 64 ++ (le16 0 ++ (le16 0 ++ (le16 64 ++ (le16 shnum ++ le16 (shnum - 1)))))))))))))

-- The header of a section whose name and bytes stand at these offsets: name, type, flags; addr, offset, size; link, info;
-- addralign, entsize.
unfoldable pub section_header : ℕ → ℕ → Fields → ℕ → List ℕ
section_header name offset s size =
    le32 name ++ (le32 s.kind ++ (le64 s.flags
    ++ (le64 0 ++ (le64 offset ++ (le64 size ++ (le32 s.link ++ (le32 s.info ++ (le64 8 ++ le64 s.entry_size))))))))
