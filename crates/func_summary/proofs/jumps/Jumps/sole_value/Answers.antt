use Rattle.std.proofs.Common.{sym, ◌∙◌}
use Rattle.func_summary.specs.JumpFunctions.{assignments_to, assignments_of}
use Rattle.func_summary.proofs.Keyed.{sole-never, sole-once, sole-often}
use Rattle.func_summary.proofs.jumps.Jumps.sole_value.Goals as goal

pub returns-in-Never : goal.returns-in-Never
returns-in-Never c = sole-never (assignments_to c.args.component (assignments_of c.args.self.now)) (sym c.row.ensures ∙ c.in-Never.is)

pub returns-in-Once : goal.returns-in-Once
returns-in-Once c = sole-once (assignments_to c.args.component (assignments_of c.args.self.now)) c.in-Once.value (sym c.row.ensures ∙ c.in-Once.is)

pub returns-in-Often : goal.returns-in-Often
returns-in-Often c = sole-often (assignments_to c.args.component (assignments_of c.args.self.now)) (sym c.row.ensures ∙ c.in-Often.is)
