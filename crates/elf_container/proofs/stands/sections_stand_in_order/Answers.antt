use Rattle.elf_container.proofs.OffsetLaws.{section_at_offset, table_told, header_told, size_at}
use Rattle.elf_container.proofs.stands.sections_stand_in_order.Goals as goal

pub returns-clause-section : goal.returns-clause-section
returns-clause-section c = section_at_offset

pub returns-clause-table : goal.returns-clause-table
returns-clause-table c = table_told

pub returns-clause-header : goal.returns-clause-header
returns-clause-header c = header_told

pub returns-clause-size : goal.returns-clause-size
returns-clause-size c = size_at
