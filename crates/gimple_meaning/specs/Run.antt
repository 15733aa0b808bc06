-- The run of at most n steps, and what it shows.
use Rattle.std.specs.Prelude.{ℕ, zero, suc, List}
use Rattle.gimple_ir.specs.declared.types.Program.{Program}
use Rattle.gimple_meaning.specs.Systems.{System, Machine, State, Running, Ended, Undefined, step}
use Rattle.gimple_meaning.specs.Source.{source_of, start}
use Rattle.gimple_meaning.specs.declared.outcome.Outcome.{Outcome}
use Rattle.gimple_meaning.specs.declared.outcome.Outcome.TheVariants as outcome

-- the state after at most n steps from a first one
abbrev pub run : System → State → ℕ → State
run system first zero = first
run system first (suc n) = step system (run system first n)

-- a source program on an input, after at most n steps
abbrev pub src : Program → List ℕ → ℕ → State
src program input n = run (source_of program) (start program input) n

abbrev pub outcome_of : State → Outcome
outcome_of (Running m) = outcome.Running
outcome_of (Ended m status) = outcome.Ended status
outcome_of (Undefined m function place) = outcome.Undefined function place

abbrev pub machine_of : State → Machine
machine_of (Running m) = m
machine_of (Ended m status) = m
machine_of (Undefined m function place) = m

abbrev pub output_of : State → List ℕ
output_of s = (machine_of s).output
