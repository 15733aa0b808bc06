use Rattle.std.proofs.Common.{◌≡◌, take}
use Rattle.gimple_meaning.proofs.stage.layouts.Given as goal

abbrev pub invariant-loop-function : goal.invariant-loop-function
invariant-loop-function l = l.layouts.items ≡ take l.function-index l.functions
