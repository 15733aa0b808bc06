use Rattle.std.proofs.Common.{◌≡◌, ◌+◌, ◌*◌, ◌≤◌, ◌^◌, ◌++◌, drop}
use Rattle.rv64_select.specs.Code.{words_in, laid}
use Rattle.rv64_select.specs.Selected.{reference_of, references}
use Rattle.rv64_select.proofs.references.references_of.Given as goal

-- the references so far, and those of the rest, are those of all
abbrev pub invariant-loop-item : goal.invariant-loop-item
invariant-loop-item l = record {
  short : l.at + 4 * words_in (drop l.item-index l.items) ≤ 2 ^ 19;
  found : l.found.items ++ laid reference_of l.at (drop l.item-index l.items) ≡ references l.items;
}
