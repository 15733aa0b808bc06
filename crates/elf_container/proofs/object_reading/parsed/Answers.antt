use Rattle.std.proofs.Common.{length, ap, length-drop, arith}
use Rattle.elf_container.proofs.object_reading.parsed.Goals as goal

pub entries-requires-3 : goal.entries-requires-3
entries-requires-3 c = omega (arith, length-drop 24 c.args.symtab.now, ap length c.behind_zero.ensures, c.saturating_sub-count.ensures)
