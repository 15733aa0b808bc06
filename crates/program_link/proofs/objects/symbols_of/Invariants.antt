use Rattle.std.proofs.Common.{◌≡◌, ◌∷◌, map, take}
use Rattle.std.specs.List.{AllByRecursion}
use Rattle.elf_container.specs.Relocatable.{SymbolFits}
use Rattle.program_link.specs.Objects.{defined_symbol, other_symbol, others}
use Rattle.program_link.proofs.objects.symbols_of.Given as goal

abbrev pub invariant-loop-name : goal.invariant-loop-name
invariant-loop-name l = record {
  value : l.symbols.items ≡ defined_symbol l.own l.size ∷ map other_symbol (others l.own (take l.name-index l.names));
  fits : AllByRecursion SymbolFits l.symbols.items;
}
