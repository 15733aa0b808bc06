use Rattle.std.proofs.Common.{◌≡◌, take}
use Rattle.lto_object.specs.Objects.{named_arrays}
use Rattle.lto_object.proofs.listing.named_arrays.Given as goal

abbrev pub invariant-loop-function : goal.invariant-loop-function
invariant-loop-function l = l.named.items ≡ named_arrays (take l.function-index l.functions)
