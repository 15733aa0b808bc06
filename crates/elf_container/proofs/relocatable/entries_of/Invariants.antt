use Rattle.std.proofs.Common.{◌≡◌, ◌≤◌, ◌+◌, ◌*◌, ◌++◌, drop}
use Rattle.elf_container.specs.Relocatable.{entries_from}
use Rattle.elf_container.proofs.relocatable.entries_of.Given as goal

abbrev pub invariant-loop-symbol : goal.invariant-loop-symbol
invariant-loop-symbol l = record { value : l.found.items ++ entries_from l.name (drop l.symbol-index l.symbols) ≡ entries_from 1 l.symbols; small : l.name ≤ 1 + 301 * l.symbol-index }
