use Rattle.std.proofs.Common.{sym, ◌∙◌}
use Rattle.func_summary.specs.JumpFunctions.{assignments_to, assignments_of}
use Rattle.func_summary.proofs.Keyed.{count-never, count-once, count-often}
use Rattle.func_summary.proofs.jumps.Jumps.is_never_assigned.Goals as goal

pub returns-in-Never : goal.returns-in-Never
returns-in-Never c = count-never (assignments_to c.args.component (assignments_of c.args.self.now)) (sym c.row.ensures ∙ c.in-Never.is)

pub returns-in-Once : goal.returns-in-Once
returns-in-Once c = count-once (assignments_to c.args.component (assignments_of c.args.self.now)) _ (sym c.row.ensures ∙ c.in-Once.is)

pub returns-in-Often : goal.returns-in-Often
returns-in-Often c = count-often (assignments_to c.args.component (assignments_of c.args.self.now)) (sym c.row.ensures ∙ c.in-Often.is)
