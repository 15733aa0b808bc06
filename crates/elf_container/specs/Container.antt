-- The sections that a file can have.
use Rattle.std.specs.Prelude.{◌≡◌, ◌^◌, ◌<◌, ◌≤◌, List, length, All, bit_and}
use Rattle.gimple_ir.specs.Names.{IsName}
use Rattle.elf_container.specs.declared.format.TheConstants.{SHT_PROGBITS, SHT_RELA, SHF_COMPRESSED}
use Rattle.elf_container.specs.declared.sections.Fields.{Fields}
use Rattle.elf_container.specs.declared.sections.OwnSection.{OwnSection}
use Rattle.elf_container.specs.Layout.{fields_of}

-- what writing asks of a section: one of the four types, and no compressed bytes
pub record IsPlain (s : OwnSection) : Type 0 where
  pub least : SHT_PROGBITS ≤ s.kind
  pub most : s.kind ≤ SHT_RELA
  pub uncompressed : bit_and s.flags SHF_COMPRESSED ≡ 0

-- the numbers that a section's header keeps fit their fields
pub record FieldsFit (f : Fields) : Type 0 where
  pub flags : f.flags < 2 ^ 64
  pub link : f.link < 2 ^ 32
  pub info : f.info < 2 ^ 32
  pub entry_size : f.entry_size < 2 ^ 64

-- a section with a name whose numbers fit, as those of a program's values do
pub record IsWritable (s : OwnSection) : Type 0 where
  pub name : IsName s.name
  pub fields : FieldsFit (fields_of s)

-- a plain section with a name, whose numbers fit
pub record IsSection (s : OwnSection) : Type 0 where
  pub plain : IsPlain s
  pub name : IsName s.name
  pub fields : FieldsFit (fields_of s)

-- sections that a file's header can count, with header 0 and that of `.shstrtab`
pub record IsContainer (ss : List OwnSection) : Type 0 where
  pub few : length ss ≤ 65533
  pub sections : All IsSection ss
