use Rattle.program_link.proofs.PlanLaws.{main_stands}
use Rattle.program_link.proofs.VersionLaws.{versions_fit, symbols_agree, symbols_differ, uses_kept, text_small, arrays_small}
use Rattle.program_link.proofs.laws.versioned.Goals as goal

pub returns-clause-fit : goal.returns-clause-fit
returns-clause-fit c = versions_fit

pub returns-clause-agree : goal.returns-clause-agree
returns-clause-agree c = symbols_agree

pub returns-clause-differ : goal.returns-clause-differ
returns-clause-differ c = symbols_differ

pub returns-clause-main : goal.returns-clause-main
returns-clause-main c = main_stands

pub returns-clause-uses : goal.returns-clause-uses
returns-clause-uses c = uses_kept

pub returns-clause-text : goal.returns-clause-text
returns-clause-text c = text_small

pub returns-clause-arrays : goal.returns-clause-arrays
returns-clause-arrays c = arrays_small
