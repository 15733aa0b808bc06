use Rattle.std.proofs.Common.{◌≡◌, ◌++◌, take, drop}
use Rattle.std.specs.Prelude.{option_map}
use Rattle.elf_container.specs.Reading.{text}
use Rattle.elf_container.proofs.names.text.Given as goal

-- no zero so far
abbrev pub invariant-loop-place : goal.invariant-loop-place
invariant-loop-place l = text l.bytes ≡ option_map (λ t. take l.place l.bytes ++ t) (text (drop l.place l.bytes))
