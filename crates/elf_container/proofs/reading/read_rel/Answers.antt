use Rattle.std.proofs.Common.{arith}
use Rattle.elf_container.proofs.Found.{read_found, gives_only}
use Rattle.elf_container.proofs.ReadAgain.{read_again}
use Rattle.elf_container.proofs.reading.read_rel.Goals as goal

pub returns-clause-found : goal.returns-clause-found
returns-clause-found c = read_found (λ ss. ss) c.args.bytes.now c.view_of.result c.view_of.ensures.exact

pub returns-clause-only : goal.returns-clause-only
returns-clause-only c = λ ss is e. gives_only c.view_of.result c.args.bytes.now ss (read_again c.args.bytes.now ss (omega arith) is e) c.view_of.ensures.exact
