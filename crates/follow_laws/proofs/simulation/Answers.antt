use Rattle.follow_laws.proofs.SimulationLaws.{simulation_from_meetings}
use Rattle.follow_laws.proofs.simulation.Goals as goal

pub returns : goal.returns
returns c = simulation_from_meetings
