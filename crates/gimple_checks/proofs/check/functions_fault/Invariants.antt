use Rattle.std.proofs.Common.{◌≡◌, ℕ, List, drop}
use Rattle.gimple_ir.specs.Names.{is_among}
use Rattle.gimple_ir.specs.Checks.{faults_from, function_fault, names_before}
use Rattle.gimple_checks.specs.Seen.{holds}
use Rattle.gimple_checks.proofs.check.functions_fault.Given as goal

abbrev pub invariant-loop-place : goal.invariant-loop-place
invariant-loop-place l = record {
  seen : (q : List ℕ) → holds l.seen q ≡ is_among (names_before l.source l.place) q;
  rest : faults_from (function_fault l.source) 0 l.source.functions ≡ faults_from (function_fault l.source) l.place (drop l.place l.source.functions);
}
