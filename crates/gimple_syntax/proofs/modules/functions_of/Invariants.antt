use Rattle.std.proofs.Common.{◌≡◌}
use Rattle.std.specs.List.{flat_map}
use Rattle.gimple_syntax.specs.Passes.{function_at, items_read, read_as}
use Rattle.gimple_syntax.proofs.PassLaws.{going, measure}
use Rattle.gimple_syntax.proofs.modules.functions_of.Given as goal

abbrev pub decreases-items : goal.decreases-items
decreases-items l = measure l.more l.reader

-- the functions so far, and those of what is left
abbrev pub invariant-items : goal.invariant-items
invariant-items l = going (function_at l.names) l.more l.found l.reader ≡ read_as (flat_map (function_at l.names)) (items_read l.text)
