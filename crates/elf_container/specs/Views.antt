-- What contracts see of a section that lends its bytes: the section with these bytes of its own.
use Rattle.elf_container.specs.declared.sections.Section.{Section}
use Rattle.elf_container.specs.declared.sections.OwnSection.{OwnSection}

abbrev pub owned : Section → OwnSection
owned s = record { name = s.name; kind = s.kind; flags = s.flags; link = s.link; info = s.info; entry_size = s.entry_size; bytes = s.bytes.now }
