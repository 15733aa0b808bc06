use Rattle.std.proofs.Common.{length, ap, length-append, arith}
use Rattle.elf_container.proofs.HeaderLaws.{file_header_len}
use Rattle.elf_container.proofs.writing.header_of.Goals as goal

pub returns-clause-len : goal.returns-clause-len
returns-clause-len c =
    omega (arith, simp length-append at (ap length c.in_ok-put_file_header.ensures), ap length c.in_ok-header.ensures.items, file_header_len c.args.shoff c.args.shnum)
