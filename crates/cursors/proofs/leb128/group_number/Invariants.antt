use Rattle.std.proofs.Common.{◌≡◌, ◌≤◌, length, drop}
use Rattle.cursors.specs.Leb128.{number_of}
use Rattle.cursors.proofs.leb128.group_number.Given as goal

abbrev pub invariant-loop-place : goal.invariant-loop-place
invariant-loop-place l = record { number : l.number ≡ number_of (drop l.place l.group); within : l.place ≤ length l.group }

abbrev pub decreases-loop-place : goal.decreases-loop-place
decreases-loop-place l = l.place
