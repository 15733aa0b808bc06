use Rattle.symbol_resolution.proofs.ProgramLaws.{merged_law}
use Rattle.symbol_resolution.proofs.laws.merged_programs.Goals as goal

pub returns : goal.returns
returns c = record { summarised = merged_law }
