use Rattle.std.proofs.Common.{◌≡◌, ◌≤◌, drop, length}
use Rattle.lto_object.specs.ObjectReading.{differs_from}
use Rattle.lto_object.proofs.checks.differs.Given as goal

abbrev pub invariant-loop-place : goal.invariant-loop-place
invariant-loop-place l = record { same : differs_from 0 l.stored l.symbols ≡ differs_from l.place (drop l.place l.stored) (drop l.place l.symbols); inside : l.place ≤ length l.stored }
