use Rattle.std.proofs.Common.{◌≡◌, ◌++◌, drop}
use Rattle.rv64_select.specs.Assembly.{plain}
use Rattle.rv64_select.proofs.constants.put_all.Given as goal

abbrev pub invariant-loop-instr : goal.invariant-loop-instr
invariant-loop-instr l = l.out.items ++ plain (drop l.instr-index l.code) ≡ l.initial.out.items ++ plain l.code
