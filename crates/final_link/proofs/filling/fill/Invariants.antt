use Rattle.std.proofs.Common.{◌≡◌, drop, map}
use Rattle.final_link.specs.Members.{counted_from}
use Rattle.final_link.specs.Filling.{filled}
use Rattle.final_link.specs.Symbols.{address_in}
use Rattle.final_link.proofs.filling.fill.Given as goal

-- what the relocations that are left fill
abbrev pub invariant-loop-reloc : goal.invariant-loop-reloc
invariant-loop-reloc l =
    filled (map (counted_from l.start) (drop l.reloc-index l.relocations)) (address_in l.symbols l.of_part) l.at l.words.items
    ≡ filled (map (counted_from l.start) l.relocations) (address_in l.symbols l.of_part) l.at l.initial.words.items
