-- What the code keeps of a module to tell places in its list.
use Rattle.std.specs.Prelude.{ℕ, ◌≡◌, ◌<◌, ◌≤◌, ◌+◌, List, length, map, true, Some}
use Rattle.std.specs.List.{range_with_len, slice_index_or}
use Rattle.workload_gen.specs.declared.choices.Choice.{Choice}
use Rattle.workload_gen.specs.declared.choices.Call.{Call}
use Rattle.workload_gen.specs.Modules.{declared_below, has_call_to, own_choices}

-- each call is to one of the next seven functions
abbrev pub IsForward : ℕ → ℕ → Choice → Type 0
IsForward count number choice =
    (call : Call) → choice.call ≡ Some call → (number < call.callee) × (call.callee ≤ number + 7) × (call.callee < count)

abbrev pub AreForward : List Choice → Type 0
AreForward choices =
    (number : ℕ) (other : Choice) → number < length choices → IsForward (length choices) number (slice_index_or choices number other)

-- a function that is there and that the module calls
pub record IsCalled (choices : List Choice) (module_number number : ℕ) : Type 0 where
  pub called : has_call_to (own_choices choices module_number) module_number number ≡ true
  pub there : number < length choices

-- the module calls no function from the limit on
pub record Reaches (choices : List Choice) (module_number limit : ℕ) : Type 0 where
  pub each : (number : ℕ) → IsCalled choices module_number number → number < limit

-- how many functions are declared below each number from `end` on
abbrev pub AreCounts : List Choice → ℕ → ℕ → List ℕ → Type 0
AreCounts own module_number end before =
    before ≡ map (λ number. length (declared_below own module_number number)) (range_with_len end (length before))
