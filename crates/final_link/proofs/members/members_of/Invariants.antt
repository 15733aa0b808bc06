use Rattle.std.proofs.Common.{◌≡◌, ◌++◌, drop}
use Rattle.final_link.specs.Names.{named}
use Rattle.final_link.specs.Members.{members_from}
use Rattle.final_link.proofs.members.members_of.Given as goal

abbrev pub invariant-loop-part : goal.invariant-loop-part
invariant-loop-part l = named l.entries.items ++ members_from l.part (drop l.part l.parts) ≡ members_from 0 l.parts
