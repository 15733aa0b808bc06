use Rattle.std.proofs.Common.{◌≡◌, take}
use Rattle.gimple_syntax.specs.Statements.{arguments_of}
use Rattle.gimple_syntax.proofs.statements.arguments_of.Given as goal

abbrev pub invariant-loop-argument : goal.invariant-loop-argument
invariant-loop-argument l = l.found ≡ arguments_of l.scope (take l.argument-index l.args)
