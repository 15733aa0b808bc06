use Rattle.std.proofs.Common.{◌≡◌, ◌+◌, ◌*◌, ◌++◌, take, vec_len}
use Rattle.std.specs.List.{flat_map}
use Rattle.final_link.specs.Arrays.{element_size, element_bytes}
use Rattle.final_link.proofs.arrays.put_elements.Given as goal

abbrev pub invariant-loop-value : goal.invariant-loop-value
invariant-loop-value l = record {
  bytes : l.out.items ≡ l.initial.out.items ++ flat_map (element_bytes l.element) (take l.value-index l.values);
  len : vec_len l.out ≡ vec_len l.initial.out + l.value-index * element_size l.element;
}
