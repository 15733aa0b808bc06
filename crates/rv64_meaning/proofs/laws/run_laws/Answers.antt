use Rattle.rv64_meaning.proofs.RunLaws.{after-add, exec_over, exec_grows}
use Rattle.rv64_meaning.proofs.laws.run_laws.Goals as goal

pub returns : goal.returns
returns c = record { parts = after-add; over = exec_over; grows = exec_grows }
