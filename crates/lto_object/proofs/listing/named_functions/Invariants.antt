use Rattle.std.proofs.Common.{◌≡◌, take}
use Rattle.lto_object.specs.Objects.{named_functions}
use Rattle.lto_object.proofs.listing.named_functions.Given as goal

abbrev pub invariant-loop-function : goal.invariant-loop-function
invariant-loop-function l = l.named.items ≡ named_functions (take l.function-index l.functions)
