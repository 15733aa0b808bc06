use Rattle.std.proofs.Common.{◌≡◌, ◌≤◌, drop}
use Rattle.elf_container.specs.Relocatable.{fill_from}
use Rattle.elf_container.proofs.object_form.fill_from.Given as goal

abbrev pub invariant-loop-place : goal.invariant-loop-place
invariant-loop-place l = record { value : fill_from l.at l.end (drop l.place l.symbols) ≡ fill_from 0 l.end l.symbols; within : l.at ≤ l.end }
