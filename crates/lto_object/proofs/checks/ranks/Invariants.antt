use Rattle.std.proofs.Common.{◌≡◌, ◌≤◌, length, map, take}
use Rattle.std.specs.List.{range_with_len}
use Rattle.lto_object.specs.Bounds.{defined_of}
use Rattle.lto_object.proofs.checks.ranks.Given as goal

abbrev pub invariant-loop-function : goal.invariant-loop-function
invariant-loop-function l = record {
  made : l.ranks.items ≡ map (λ place. length (defined_of (take place l.functions))) (range_with_len 0 l.function-index);
  count : l.count ≡ length (defined_of (take l.function-index l.functions));
}
