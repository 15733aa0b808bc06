-- What the interpreter stands for.
use Rattle.gimple_meaning.specs.Stages.{Run, state_of}
use Rattle.gimple_meaning.specs.declared.interp.Interp.TheInside.{Inside}

abbrev pub run_of : Inside → Run
run_of i = record { program = i.stage.program; state = state_of i.stage i.phase }
