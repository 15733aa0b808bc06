use Rattle.std.proofs.Common.{◌≡◌, map, take}
use Rattle.call_graph.proofs.keeping.exported_flags.Given as goal

abbrev pub invariant-loop-array : goal.invariant-loop-array
invariant-loop-array l = l.flags.items ≡ map (λ a. a.exported) (take l.array-index l.arrays)
