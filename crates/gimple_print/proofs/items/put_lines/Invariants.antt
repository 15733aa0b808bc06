use Rattle.std.proofs.Common.{◌≡◌, ◌++◌, take}
use Rattle.std.specs.List.{flat_map}
use Rattle.gimple_print.specs.Statements.{line_text}
use Rattle.gimple_print.proofs.items.put_lines.Given as goal

abbrev pub invariant-loop-statement : goal.invariant-loop-statement
invariant-loop-statement l = l.out.items ≡ l.initial.out.items ++ flat_map (line_text l.scope) (take l.statement-index l.body)
