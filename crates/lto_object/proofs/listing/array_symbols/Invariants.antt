use Rattle.std.proofs.Common.{◌≡◌, ◌++◌, take}
use Rattle.lto_object.specs.Objects.{array_symbols}
use Rattle.lto_object.proofs.listing.array_symbols.Given as goal

abbrev pub invariant-loop-place : goal.invariant-loop-place
invariant-loop-place l = l.symbols.items ≡ l.initial.symbols.items ++ array_symbols l.named (take l.place l.arrays)
