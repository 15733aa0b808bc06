use Rattle.std.proofs.Common.{◌≡◌, ◌≤◌, drop, length}
use Rattle.elf_container.specs.Reading.{difference}
use Rattle.elf_container.proofs.reading.difference.Given as goal

abbrev pub invariant-loop-place : goal.invariant-loop-place
invariant-loop-place l = record { same : difference 0 l.left l.right ≡ difference l.place (drop l.place l.left) (drop l.place l.right); right : l.place ≤ length l.right }
