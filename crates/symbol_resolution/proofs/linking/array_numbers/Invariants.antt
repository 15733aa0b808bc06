use Rattle.std.proofs.Common.{◌≡◌, ◌++◌, drop, map, filter, length, nat_lt}
use Rattle.symbol_resolution.specs.Numbers.{array_number}
use Rattle.symbol_resolution.proofs.linking.array_numbers.Given as goal

abbrev pub invariant-loop-place : goal.invariant-loop-place
invariant-loop-place l =
    l.numbers.items ++ filter (λ n. nat_lt n (length l.arrays)) (map (array_number l.arrays l.object l.source) (drop l.place-index l.named))
    ≡ filter (λ n. nat_lt n (length l.arrays)) (map (array_number l.arrays l.object l.source) l.named)
