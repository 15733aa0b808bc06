use Rattle.std.proofs.Common.{◌≡◌, ◌++◌, ◌+◌, ◌≤◌, drop, length}
use Rattle.symbol_resolution.specs.Groups.{named}
use Rattle.symbol_resolution.specs.Kept.{kept_functions_in}
use Rattle.symbol_resolution.specs.Numbers.{function_numbers}
use Rattle.symbol_resolution.proofs.kept.push_functions.Given as goal

abbrev pub invariant-loop-place : goal.invariant-loop-place
invariant-loop-place l = record {
  rest : named l.numbers.items ++ function_numbers l.number (kept_functions_in l.marks l.object l.source l.place (drop l.place l.source.functions))
      ≡ named l.fn.numbers.items ++ function_numbers (length l.fn.numbers.items) (kept_functions_in l.marks l.object l.source 0 l.source.functions);
  number : l.number ≡ length l.numbers.items;
  few : length l.numbers.items ≤ length l.fn.numbers.items + l.place;
}
