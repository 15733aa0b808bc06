use Rattle.std.proofs.Common.{◌≡◌, ◌≤◌, ◌++◌, length, map, drop, fold}
use Rattle.std.specs.List.{AllByRecursion}
use Rattle.rv64_select.specs.Items.{SymbolFits}
use Rattle.rv64_select.specs.Selected.{with_reference, names_of, relocation_of}
use Rattle.rv64_select.specs.Placed.{IsPlaced}
use Rattle.rv64_select.proofs.names.named.Given as goal

-- the names so far lead to those of all, and the relocations so far have the places that these have there
abbrev pub invariant-loop-reference : goal.invariant-loop-reference
invariant-loop-reference l = record {
  few : length l.names ≤ l.reference-index;
  fits : AllByRecursion (λ r. SymbolFits l.function r.symbol) (drop l.reference-index l.references);
  placed : IsPlaced l.places l.names;
  names : fold (with_reference l.function) l.names (drop l.reference-index l.references) ≡ names_of l.function l.references;
  relocations : l.relocations ++ map (relocation_of l.function (names_of l.function l.references)) (drop l.reference-index l.references) ≡ map (relocation_of l.function (names_of l.function l.references)) l.references;
}
