use Rattle.std.proofs.Common.{◌≡◌, ◌+◌, ◌-◌, ◌*◌, ◌++◌, length}
use Rattle.elf_container.specs.Reading.{headers_at}
use Rattle.elf_container.proofs.headers.headers.Given as goal

-- those so far, and those to come
abbrev pub invariant-loop-place : goal.invariant-loop-place
invariant-loop-place l = record { value : l.headers.items ++ headers_at (l.count - l.place) (l.at + 64 * l.place) l.bytes ≡ headers_at l.count l.at l.bytes; count : length l.headers.items ≡ l.place }
