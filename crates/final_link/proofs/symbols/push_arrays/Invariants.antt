use Rattle.std.proofs.Common.{◌≡◌, ◌++◌, drop}
use Rattle.final_link.specs.Names.{named}
use Rattle.final_link.proofs.symbols.push_arrays.Given as goal

abbrev pub invariant-loop-array : goal.invariant-loop-array
invariant-loop-array l = named l.entries.items ++ drop l.array-index l.arrays ≡ named l.initial.entries.items ++ l.arrays
