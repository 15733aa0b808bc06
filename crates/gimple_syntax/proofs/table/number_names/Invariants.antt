use Rattle.std.proofs.Common.{◌≡◌, ℕ, List, map, take}
use Rattle.gimple_syntax.specs.Table.{number_in, first_number}
use Rattle.gimple_syntax.proofs.table.number_names.Given as goal

abbrev pub invariant-loop-place : goal.invariant-loop-place
invariant-loop-place l = (q : List ℕ) → number_in l.numbers q ≡ first_number (take l.place (map (λ name. name.now) l.names)) q
