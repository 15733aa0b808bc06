use Rattle.std.proofs.Common.{◌≡◌, ◌+◌, drop}
use Rattle.elf_container.specs.Reading.{mismatch}
use Rattle.elf_container.proofs.form.mismatch.Given as goal

-- none so far
abbrev pub invariant-loop-place : goal.invariant-loop-place
invariant-loop-place l = mismatch l.from l.bytes l.wanted ≡ mismatch (l.from + l.place) (drop l.place l.bytes) (drop l.place l.wanted)
