use Rattle.std.proofs.Common.{◌≡◌, ◌++◌, drop}
use Rattle.std.specs.Prelude.{option_map}
use Rattle.elf_container.specs.ObjectReading.{named_by}
use Rattle.elf_container.proofs.object_reading.named.Given as goal

abbrev pub invariant-loop-entry : goal.invariant-loop-entry
invariant-loop-entry l = option_map (λ more. l.symbols ++ more) (named_by l.strings (drop l.entry-index l.entries)) ≡ named_by l.strings l.entries
