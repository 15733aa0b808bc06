use Rattle.std.proofs.Common.{◌≡◌, ◌≤◌, map, drop, length}
use Rattle.elf_container.specs.Views.{owned}
use Rattle.lto_object.specs.Forms.{misplaced_from}
use Rattle.lto_object.proofs.form.misplaced.Given as goal

abbrev pub invariant-loop-place : goal.invariant-loop-place
invariant-loop-place l = record {
  same : misplaced_from 0 (map (λ n. n.now) l.names) (map owned l.sections) ≡ misplaced_from l.place (map (λ n. n.now) (drop l.place l.names)) (map owned (drop l.place l.sections));
  inside : l.place ≤ length l.sections;
}
