use Rattle.std.proofs.Common.{◌≡◌, ◌+◌, ◌-◌, ◌^◌, drop, length, min, sum_by}
use Rattle.symbol_resolution.proofs.few.are_few.Given as goal

abbrev pub invariant-loop-object : goal.invariant-loop-object
invariant-loop-object l = record {
  functions : min (l.functions + sum_by (λ o. length o.source.functions) (drop l.object-index l.objects)) (2 ^ 64 - 1) ≡ min (sum_by (λ o. length o.source.functions) l.objects) (2 ^ 64 - 1);
  arrays : min (l.arrays + sum_by (λ o. length o.source.arrays) (drop l.object-index l.objects)) (2 ^ 64 - 1) ≡ min (sum_by (λ o. length o.source.arrays) l.objects) (2 ^ 64 - 1);
}
