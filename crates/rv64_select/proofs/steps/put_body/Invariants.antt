use Rattle.std.proofs.Common.{◌≡◌, ◌≤◌, ◌++◌, drop}
use Rattle.std.specs.List.{flat_map}
use Rattle.rv64_frame.specs.Frames.{outgoing_of}
use Rattle.rv64_select.specs.Assembly.{step_items}
use Rattle.rv64_select.proofs.steps.put_body.Given as goal

abbrev pub invariant-loop-step : goal.invariant-loop-step
invariant-loop-step l = record {
  same : l.step-items ≡ l.function.body;
  few : outgoing_of (drop l.step-index l.step-items) ≤ 64;
  items : l.out.items ++ flat_map (step_items l.layout l.function) (drop l.step-index l.step-items) ≡ l.initial.out.items ++ flat_map (step_items l.layout l.function) l.step-items;
}
