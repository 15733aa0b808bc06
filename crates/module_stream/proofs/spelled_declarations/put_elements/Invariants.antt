use Rattle.std.proofs.Common.{◌≡◌, ◌++◌, length, take}
use Rattle.std.specs.List.{flat_map}
use Rattle.cursors.specs.Leb128.{uleb_of}
use Rattle.module_stream.specs.Fields.{element_of}
use Rattle.module_stream.proofs.spelled_declarations.put_elements.Given as goal

abbrev pub invariant-loop-num : goal.invariant-loop-num
invariant-loop-num l = l.out.items ≡ (l.fn.out.items ++ uleb_of (length l.nums)) ++ flat_map (element_of l.element) (take l.num-index l.nums)
