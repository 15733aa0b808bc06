use Rattle.std.proofs.Common.{◌+◌, ◌≤◌}
use Rattle.cache_lock.specs.Passes.{IsPassOf}
use Rattle.bench.proofs.locking.calling.CallerWork.run.Given as goal

abbrev pub invariant-loop : goal.invariant-loop
invariant-loop g l = IsPassOf l.self.cell.now l.self.pass × (l.initial.self.calls ≤ l.self.pass.allowance + l.counter)
