use Rattle.std.proofs.Common.{◌≡◌, ◌++◌, take}
use Rattle.gimple_syntax.proofs.functions.add_all.Given as goal

abbrev pub invariant-loop-declared : goal.invariant-loop-declared
invariant-loop-declared l = l.into.items ≡ l.fn.into.items ++ take l.declared-index l.more
