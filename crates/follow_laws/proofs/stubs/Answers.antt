use Rattle.follow_laws.proofs.StubLaws.{start_calls, exit_ends, putchar_writes, getchar_reads}
use Rattle.follow_laws.proofs.stubs.Goals as goal

pub returns : goal.returns
returns c = record { start = start_calls; exit = exit_ends; putchar = putchar_writes; getchar = getchar_reads }
