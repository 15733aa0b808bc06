use Rattle.std.proofs.Common.{◌≡◌, drop, max}
use Rattle.rv64_frame.specs.Frames.{outgoing_of}
use Rattle.rv64_frame.proofs.layout.outgoing.Given as goal

-- the most so far, and the most of the rest, are the most of all
abbrev pub invariant-loop-step : goal.invariant-loop-step
invariant-loop-step l = max l.most (outgoing_of (drop l.step-index l.body)) ≡ outgoing_of l.body
