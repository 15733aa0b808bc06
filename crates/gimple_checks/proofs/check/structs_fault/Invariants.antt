use Rattle.std.proofs.Common.{◌≡◌, ℕ, List, map, take, drop}
use Rattle.gimple_ir.specs.Names.{is_among}
use Rattle.gimple_ir.specs.Checks.{faults_from, struct_fault}
use Rattle.gimple_checks.specs.Seen.{holds}
use Rattle.gimple_checks.proofs.check.structs_fault.Given as goal

abbrev pub invariant-loop-place : goal.invariant-loop-place
invariant-loop-place l = record {
  seen : (q : List ℕ) → holds l.seen q ≡ is_among (take l.place (map (λ t. t.name) l.source.structs)) q;
  rest : faults_from (struct_fault l.source) 0 l.source.structs ≡ faults_from (struct_fault l.source) l.place (drop l.place l.source.structs);
}
