use Rattle.std.proofs.Common.{◌≡◌, map, take}
use Rattle.lto_object.specs.Bounds.{defined_of, bounds_of}
use Rattle.lto_object.proofs.bounds.bounds_in.Given as goal

abbrev pub invariant-loop-function : goal.invariant-loop-function
invariant-loop-function l = l.bounds.items ≡ map (bounds_of l.source) (defined_of (take l.function-index l.functions))
