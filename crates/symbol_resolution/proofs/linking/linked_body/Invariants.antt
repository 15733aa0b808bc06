use Rattle.std.proofs.Common.{◌≡◌, ◌++◌, drop, map}
use Rattle.symbol_resolution.specs.Linking.{linked_statement}
use Rattle.symbol_resolution.proofs.linking.linked_body.Given as goal

abbrev pub invariant-loop-statement : goal.invariant-loop-statement
invariant-loop-statement l =
    l.linked ++ map (linked_statement l.functions l.arrays l.object l.source) (drop l.statement-index l.body) ≡ map (linked_statement l.functions l.arrays l.object l.source) l.body
