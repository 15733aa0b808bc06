-- The one layout of a file of sections: the file's header, the sections in order from offset 64, each at the next multiple of 8
-- with zeros before it, `.shstrtab` last, and the table of section headers at the next multiple of 8. It is the fold of one
-- section's placing over the list; the code does the same steps in place.
use Rattle.std.specs.Prelude.{ℕ, ◌+◌, ◌-◌, ◌%◌, List, [], ◌∷◌, ◌++◌, length, drop, replicate, codes}
use Rattle.std.specs.List.{fold}
use Rattle.elf_container.specs.declared.format.TheConstants.{SHT_STRTAB}
use Rattle.elf_container.specs.declared.sections.OwnSection.{OwnSection}
use Rattle.elf_container.specs.declared.sections.Fields.{Fields}
use Rattle.elf_container.specs.Format.{file_header, section_header}

unfoldable pub zeros : ℕ → List ℕ
zeros n = replicate n 0

-- how many bytes there are to the least multiple of 8 that is not below n
abbrev pub gap : ℕ → ℕ
gap n = (8 - n % 8) % 8

unfoldable pub padded : List ℕ → List ℕ
padded bytes = bytes ++ zeros (gap (length bytes))

-- what is placed so far: the names, the file from its start with 64 zeros for the header, and the section headers
pub record Parts : Type 0 where
  pub names : List ℕ
  pub file : List ℕ
  pub table : List ℕ

-- no section yet: names begin with a zero byte, and section header 0 is zero
abbrev pub start : Parts
start = record { names = 0 ∷ []; file = zeros 64; table = zeros 64 }

-- one more section: its name with a zero byte behind it, its bytes, its header
abbrev pub placed_as : Parts → List ℕ → Fields → List ℕ → Parts
placed_as p name fields bytes = record {
  names = (p.names ++ name) ++ 0 ∷ [];
  file = padded p.file ++ bytes;
  table = p.table ++ section_header (length p.names) (length (padded p.file)) fields (length bytes);
}

abbrev pub fields_of : OwnSection → Fields
fields_of s = record { kind = s.kind; flags = s.flags; link = s.link; info = s.info; entry_size = s.entry_size }

abbrev pub placed : Parts → OwnSection → Parts
placed p s = placed_as p s.name (fields_of s) s.bytes

abbrev pub shstrtab_name : List ℕ
shstrtab_name = codes ".shstrtab"

-- the section of the names before it and of its own
abbrev pub shstrtab_of : List ℕ → OwnSection
shstrtab_of names = record { name = shstrtab_name; kind = SHT_STRTAB; flags = 0; link = 0; info = 0; entry_size = 0; bytes = (names ++ shstrtab_name) ++ 0 ∷ [] }

unfoldable pub parts_of : List OwnSection → Parts
parts_of ss = let p = fold placed start ss in placed p (shstrtab_of p.names)

-- the file of these parts, with so many section headers
abbrev pub file_of : Parts → ℕ → List ℕ
file_of p shnum = (file_header (length (padded p.file)) shnum ++ drop 64 (padded p.file)) ++ p.table

-- The file of the sections. Header 0 and that of `.shstrtab` count too.
unfoldable pub layout_of : List OwnSection → List ℕ
layout_of ss = file_of (parts_of ss) (length ss + 2)
