use Rattle.std.proofs.Common.{append_assoc, append-nil}
use Rattle.elf_container.specs.Format.{section_header}
use Rattle.elf_container.proofs.writing.put_section_header.Goals as goal

pub returns : goal.returns
unfolding section_header
returns c = simp (append_assoc, append-nil) at (rw (c.in_ok-put_all-3.ensures, c.in_ok-put_all-2.ensures, c.in_ok-put_all.ensures) at c.put_all-4.ensures)
