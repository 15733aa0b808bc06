use Rattle.std.proofs.Common.{◌≡◌, ◌++◌, ◌+◌, ◌≤◌, drop, length}
use Rattle.symbol_resolution.specs.Groups.{named}
use Rattle.symbol_resolution.specs.Kept.{kept_arrays_in}
use Rattle.symbol_resolution.specs.Numbers.{array_numbers}
use Rattle.symbol_resolution.proofs.kept.push_arrays.Given as goal

abbrev pub invariant-loop-place : goal.invariant-loop-place
invariant-loop-place l = record {
  rest : named l.numbers.items ++ array_numbers l.number (kept_arrays_in l.marks l.object l.place (drop l.place l.source.arrays))
      ≡ named l.fn.numbers.items ++ array_numbers (length l.fn.numbers.items) (kept_arrays_in l.marks l.object 0 l.source.arrays);
  number : l.number ≡ length l.numbers.items;
  few : length l.numbers.items ≤ length l.fn.numbers.items + l.place;
}
