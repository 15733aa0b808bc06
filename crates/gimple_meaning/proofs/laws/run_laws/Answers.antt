use Rattle.gimple_meaning.proofs.RunLaws.{run-add, run_over, run_grows}
use Rattle.gimple_meaning.proofs.laws.run_laws.Goals as goal

pub returns : goal.returns
returns c = record { parts = run-add; over = run_over; grows = run_grows }
