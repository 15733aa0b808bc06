use Rattle.std.proofs.Common.{◌≡◌, ◌≤◌, ◌-◌, ◌*◌, ◌++◌, length}
use Rattle.elf_container.specs.Entries.{entries}
use Rattle.elf_container.proofs.entries.entries.Given as goal

-- those so far, and those to come
abbrev pub invariant-loop : goal.invariant-loop
invariant-loop g l = record { value : l.found.items ++ entries g.E.Entry.size g.E.Entry.read_in (l.count - l.counter) l.rest ≡ entries g.E.Entry.size g.E.Entry.read_in l.count l.bytes; within : g.E.Entry.size * (l.count - l.counter) ≤ length l.rest }
