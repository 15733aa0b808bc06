use Rattle.std.proofs.Common.{◌≡◌, ◌++◌, length, take}
use Rattle.std.specs.List.{flat_map}
use Rattle.cursors.specs.Leb128.{uleb_of}
use Rattle.lto_object.proofs.summary_fields.put_arrays.Given as goal

abbrev pub invariant-loop-array : goal.invariant-loop-array
invariant-loop-array l = l.out.items ≡ (l.fn.out.items ++ uleb_of (length l.arrays)) ++ flat_map uleb_of (take l.array-index l.arrays)
