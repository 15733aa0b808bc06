use Rattle.std.proofs.Common.{append_assoc, append-nil}
use Rattle.elf_container.specs.Format.{file_header}
use Rattle.elf_container.proofs.writing.put_file_header.Goals as goal

pub returns : goal.returns
unfolding file_header
returns c = simp (append_assoc, append-nil) at (rw (c.in_ok-put_le32-2.ensures.ok, c.in_ok-put_all-2.ensures, c.in_ok-put_le32.ensures.ok, c.in_ok-put_all.ensures, c.in_ok-extend_from_slice.ensures.items) at c.put_all-3.ensures)
