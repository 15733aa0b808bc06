use Rattle.std.proofs.Common.{◌≤◌, All}
use Rattle.cache_lock.specs.Passes.{IsPassOf}
use Rattle.bench.proofs.locking.calling.callers_of.Given as goal

abbrev pub invariant-loop : goal.invariant-loop
invariant-loop g l = IsPassOf l.cell l.pass × (l.left ≤ l.pass.allowance) × All (λ w. IsPassOf w.cell.now w.pass × (w.calls ≤ w.pass.allowance)) l.callers.items
