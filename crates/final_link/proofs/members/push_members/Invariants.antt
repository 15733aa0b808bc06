use Rattle.std.proofs.Common.{◌≡◌, ◌++◌, drop}
use Rattle.final_link.specs.Names.{named}
use Rattle.final_link.specs.Members.{members_in}
use Rattle.final_link.proofs.members.push_members.Given as goal

-- what is there and what is left make what will be there
abbrev pub invariant-loop-symbol : goal.invariant-loop-symbol
invariant-loop-symbol l = named l.entries.items ++ members_in l.part (drop l.symbol-index l.symbols) ≡ named l.initial.entries.items ++ members_in l.part l.symbols
