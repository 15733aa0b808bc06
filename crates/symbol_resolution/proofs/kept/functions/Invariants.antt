use Rattle.std.proofs.Common.{◌≡◌, ◌++◌, ◌+◌, ◌<◌, ◌^◌, drop, length, sum_by}
use Rattle.symbol_resolution.specs.Groups.{named}
use Rattle.symbol_resolution.specs.Kept.{kept_functions}
use Rattle.symbol_resolution.specs.Numbers.{function_numbers}
use Rattle.symbol_resolution.proofs.kept.functions.Given as goal

abbrev pub invariant-loop-object : goal.invariant-loop-object
invariant-loop-object l = record {
  rest : named l.numbers.items ++ function_numbers (length (named l.numbers.items)) (kept_functions l.marks l.object (drop l.object l.objects)) ≡ function_numbers 0 (kept_functions l.marks 0 l.objects);
  room : length l.numbers.items + sum_by (λ o. length o.source.functions) (drop l.object l.objects) < 2 ^ 32;
}
