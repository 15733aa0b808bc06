use Rattle.std.proofs.Common.{◌≡◌, ◌++◌, length, take}
use Rattle.std.specs.List.{flat_map}
use Rattle.cursors.specs.Leb128.{uleb_of}
use Rattle.module_stream.proofs.encode.put_counted.Given as goal

abbrev pub invariant-loop-item : goal.invariant-loop-item
invariant-loop-item g l = l.out.items ≡ (l.fn.out.items ++ uleb_of (length l.items)) ++ flat_map g.T.Encode.spelling (take l.item-index l.items)
