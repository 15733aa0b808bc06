use Rattle.std.proofs.Common.{◌≡◌, ◌++◌, ◌+◌, ◌<◌, ◌^◌, drop, length, sum_by}
use Rattle.symbol_resolution.specs.Groups.{named}
use Rattle.symbol_resolution.specs.Kept.{kept_arrays}
use Rattle.symbol_resolution.specs.Numbers.{array_numbers}
use Rattle.symbol_resolution.proofs.kept.arrays.Given as goal

abbrev pub invariant-loop-object : goal.invariant-loop-object
invariant-loop-object l = record {
  rest : named l.numbers.items ++ array_numbers (length (named l.numbers.items)) (kept_arrays l.marks l.object (drop l.object l.objects)) ≡ array_numbers 0 (kept_arrays l.marks 0 l.objects);
  room : length l.numbers.items + sum_by (λ o. length o.source.arrays) (drop l.object l.objects) < 2 ^ 32;
}
