use Rattle.std.proofs.Common.{◌≡◌, take}
use Rattle.program_link.proofs.copies.body.Given as goal

abbrev pub invariant-loop-each : goal.invariant-loop-each
invariant-loop-each l = l.copies.items ≡ take l.each-index l.statements
