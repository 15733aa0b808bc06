use Rattle.std.proofs.Common.{◌∙◌, sym}
use Rattle.symbol_resolution.proofs.Named.{of_name-named}
use Rattle.symbol_resolution.proofs.groups.NameGroups.of.Goals as goal

pub invariant_of-result : goal.invariant_of-result
invariant_of-result g c = λ name. (rw c.deref.ensures.value at (c.in_ok-groups.ensures name)) ∙ sym (of_name-named name c.args.entries.items)
