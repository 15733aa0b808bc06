use Rattle.std.proofs.Common.{◌∙◌, sym}
use Rattle.final_link.proofs.NameLaws.{of_name-named}
use Rattle.final_link.proofs.names.NameTable.new.Goals as goal

pub invariant_of-result : goal.invariant_of-result
invariant_of-result g c = λ name. (rw c.deref.ensures.value at (c.in_ok-groups.ensures name)) ∙ sym (of_name-named name c.args.entries.items)
