use Rattle.std.proofs.Common.{◌≡◌, ◌++◌, drop, reverse}
use Rattle.lto_object.specs.ObjectReading.{filled}
use Rattle.lto_object.proofs.streams.filled.Given as goal

abbrev pub invariant-loop-function : goal.invariant-loop-function
invariant-loop-function l = l.all ++ filled (drop l.function-index l.functions) (reverse l.rest.items) ≡ filled l.functions (reverse l.initial.rest.items)
