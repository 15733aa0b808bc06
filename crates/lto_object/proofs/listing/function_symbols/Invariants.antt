use Rattle.std.proofs.Common.{◌≡◌, ◌++◌, take}
use Rattle.lto_object.specs.Objects.{function_symbols}
use Rattle.lto_object.proofs.listing.function_symbols.Given as goal

abbrev pub invariant-loop-place : goal.invariant-loop-place
invariant-loop-place l = l.symbols.items ≡ l.initial.symbols.items ++ function_symbols l.named (take l.place l.functions)
