-- What the interpreter's parts stand for.
use Rattle.std.specs.Prelude.{◌≡◌, ◌≤◌, All, length, drop}
use Rattle.gimple_meaning.specs.Held.{HasLiterals}
use Rattle.gimple_meaning.specs.Stages.{Stage}
use Rattle.gimple_meaning.specs.declared.stage.Stage.TheInside.{Inside}

abbrev pub stage_of : Inside → Stage
stage_of i = record {
  program = i.program.now;
  frame = i.frame;
  rest = i.waiting;
  arrays = i.arrays.numbers;
  input = drop i.read i.input.items;
  output = i.output.items;
}

pub record IsSound (i : Inside) : Type 0 where
  pub literals : All HasLiterals i.program.now.functions
  pub layouts : i.layouts.items ≡ i.program.now.functions
  pub declared : i.arrays.declared ≡ i.program.now.arrays
  pub read : i.read ≤ length i.input.items
